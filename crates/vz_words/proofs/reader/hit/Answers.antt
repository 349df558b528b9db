use Rattle.std.proofs.Common.{◌≡◌, IfNone, sym, subst, ◌∙◌, ◌∷◌, ap}
use Rattle.std.specs.Prelude.{codes}
use Rattle.std.specs.Fmt.{decimal}
use Rattle.std.specs.String.{string_bytes}
use Rattle.vz_rules.specs.Command.{IsNoCommand}
use Rattle.vz_words.specs.Words.{texts}
use Rattle.vz_words.proofs.Pieces.{front_3, too_few_3, behind}
use Rattle.vz_words.proofs.Shapes.{hit_found, no_hit, no_hit_behind, below_side, in_side, in_height, unnamed_before, named_with}
use Rattle.vz_words.proofs.reader.hit.Goals as goal

pub returns-in_err-width-clause-none : goal.returns-in_err-width-clause-none
returns-in_err-width-clause-none c =
    subst (λ o. IfNone o (IsNoCommand (codes "hit" ∷ texts c.args.words.now))) (sym c.from_residual.ensures)
    (no_hit (texts c.args.words.now) (λ w h s x y files is left below named. c.in_err-width.ensures.none w h (s ∷ decimal x ∷ decimal y ∷ files) is))

pub returns-in_default-clause-none : goal.returns-in_default-clause-none
returns-in_default-clause-none c =
    no_hit_behind (texts c.args.words.now) c.in_ok-width.field-0.width c.in_ok-width.field-0.height (texts c.in_ok-width.field-0.rest.now) c.in_ok-width.ensures.found
    (λ s x y files is left below named. too_few_3 c.in_ok-width.field-0.rest.now s _ _ files c.in_default.len_below is)

pub returns-in_err-x-clause-none : goal.returns-in_err-x-clause-none
returns-in_err-x-clause-none c =
    let front = front_3 c.in_ok-width.field-0.rest.now c.schedule-item.result c.x-item.result c.y-item.result c.in-len3-up.len_at_least c.schedule-item.is c.x-item.is c.y-item.is in
    subst (λ o. IfNone o (IsNoCommand (codes "hit" ∷ texts c.args.words.now))) (sym c.from_residual-in_err-x.ensures)
    (no_hit_behind (texts c.args.words.now) c.in_ok-width.field-0.width c.in_ok-width.field-0.height (texts c.in_ok-width.field-0.rest.now) c.in_ok-width.ensures.found
    (λ s x y files is left below named. let same : string_bytes c.x-item.result ≡ decimal x = cc in
    c.in_err-x.ensures.none x (below_side x c.in_ok-width.field-0.width left) (c.as_str.ensures.value ∙ same)))

pub returns-in_err-y-clause-none : goal.returns-in_err-y-clause-none
returns-in_err-y-clause-none c =
    let front = front_3 c.in_ok-width.field-0.rest.now c.schedule-item.result c.x-item.result c.y-item.result c.in-len3-up.len_at_least c.schedule-item.is c.x-item.is c.y-item.is in
    subst (λ o. IfNone o (IsNoCommand (codes "hit" ∷ texts c.args.words.now))) (sym c.from_residual-in_err-y.ensures)
    (no_hit_behind (texts c.args.words.now) c.in_ok-width.field-0.width c.in_ok-width.field-0.height (texts c.in_ok-width.field-0.rest.now) c.in_ok-width.ensures.found
    (λ s x y files is left below named. let same : string_bytes c.y-item.result ≡ decimal y = cc in
    c.in_err-y.ensures.none y (below_side y c.in_ok-width.field-0.height below) (c.as_str-2.ensures.value ∙ same)))

pub returns-then-not-is_name_before-clause-none : goal.returns-then-not-is_name_before-clause-none
returns-then-not-is_name_before-clause-none c =
    let front = front_3 c.in_ok-width.field-0.rest.now c.schedule-item.result c.x-item.result c.y-item.result c.in-len3-up.len_at_least c.schedule-item.is c.x-item.is c.y-item.is in
    let first = c.as_str-3.ensures.value in
    no_hit_behind (texts c.args.words.now) c.in_ok-width.field-0.width c.in_ok-width.field-0.height (texts c.in_ok-width.field-0.rest.now) c.in_ok-width.ensures.found
    (λ s x y files is left below named. unnamed_before s c.as_str-3.result.now files (texts (behind 3 c.in_ok-width.field-0.rest.now)) (cc) (cc) named (sym c.is_name_before.ensures ∙ c.if-not-is_name_before.true))

pub returns-clause-found : goal.returns-clause-found
returns-clause-found c =
    let front = front_3 c.in_ok-width.field-0.rest.now c.schedule-item.result c.x-item.result c.y-item.result c.in-len3-up.len_at_least c.schedule-item.is c.x-item.is c.y-item.is in
    let first = c.as_str-4.ensures.value in
    let across = sym c.as_str.ensures.value ∙ c.in_ok-x.ensures.found in
    let down = sym c.as_str-2.ensures.value ∙ c.in_ok-y.ensures.found in
    hit_found (texts c.args.words.now) c.in_ok-width.field-0.width c.in_ok-width.field-0.height c.as_str-4.result.now c.in_ok-x.x c.in_ok-y.y
    (texts (behind 3 c.in_ok-width.field-0.rest.now)) (texts c.in_ok-width.field-0.rest.now) c.in_ok-width.ensures.found (cc)
    (in_side c.in_ok-x.x c.in_ok-width.field-0.width c.in_ok-width.field-0.height c.in_ok-width.ensures.found.1 c.in_ok-x.ensures.within)
    (in_height c.in_ok-y.y c.in_ok-width.field-0.width c.in_ok-width.field-0.height c.in_ok-width.ensures.found.1 c.in_ok-y.ensures.within)
    (ap (λ s. named_with (s ∷ texts (behind 3 c.in_ok-width.field-0.rest.now)) (texts (behind 3 c.in_ok-width.field-0.rest.now))) (first ∙ sym c.as_str-3.ensures.value) ∙ sym c.is_name_before.ensures ∙ c.if-not-is_name_before.false)
