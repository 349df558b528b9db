use Rattle.std.proofs.Common.{rules, ◌≡◌, ℕ, ◌∙◌, [], ◌∷◌, List, length, ap, sym, subst, arith}
use Rattle.std.specs.Vec.Iter.{into_iter_items}
use Rattle.vz_base.specs.declared.limits.TheConstants.{MOST_FILES}
use Rattle.viz_run.specs.Read.{contents}
use Rattle.viz_run.proofs.Accepts.{IsUnder, under_none, under_few, under_more, under_taken, under_refused, under_all, contents_count, said_of_error}
use Rattle.viz_run.proofs.client_files.accepted_files.Goals as goal

nothing_left : {X : Type 0} (l : List X) → length l ≡ 0 → l ≡ []
nothing_left [] h = search rules
nothing_left (x ∷ xs) h = absurd (omega (arith, h))

pub loop-answer-init : goal.loop-answer-init
loop-answer-init c =
    let it = c.into_iter-answer-iterator in
    let all = contents c.args.inputs.now in
    let same : into_iter_items it.result ≡ c.args.answers.items = it.ensures.into_iter_gives.0 in (
      subst (λ fs. IsUnder all fs (into_iter_items it.result)) (sym c.new-files.ensures.items)
          (subst (λ as'. IsUnder all [] as') (sym same) (under_none all c.args.answers.items c.requires.each)),
      search rules,
    )

pub returns-in_err-answer-clause-refused : goal.returns-in_err-answer-clause-refused
returns-in_err-answer-clause-refused c =
    let all = contents c.args.inputs.now in
    let at = c.loop-answer in
    let under = subst (IsUnder all at.files.items) c.in-Some.ensures.steps.0 at.invariant.0 in
    said_of_error {V = ℕ} _ c.from_residual.result _ c.from_residual.ensures.1
    (under_refused all at.files.items (into_iter_items c.next.new.self) c.in-Some.answer c.in_err-answer.field-0.0 under c.in_err-answer.was)

pub free_file-requires : goal.free_file-requires
free_file-requires c =
    let all = contents c.args.inputs.now in
    let at = c.loop-answer in
    let under = subst (IsUnder all at.files.items) c.in-Some.ensures.steps.0 at.invariant.0 in
    under_few all at.files.items (into_iter_items c.next.new.self) c.in-Some.answer _ MOST_FILES under c.deref.ensures.value
    (omega (arith, contents_count c.args.inputs.now, c.requires.few))

pub returns-in_err-file-clause-refused : goal.returns-in_err-file-clause-refused
returns-in_err-file-clause-refused c =
    let all = contents c.args.inputs.now in
    let at = c.loop-answer in
    let under = subst (IsUnder all at.files.items) c.in-Some.ensures.steps.0 at.invariant.0 in
    said_of_error {V = ℕ} _ c.from_residual-in_err-file.result _ c.from_residual-in_err-file.ensures.1
    (under_taken all at.files.items (into_iter_items c.next.new.self) c.in-Some.answer c.in_ok-answer.field-0 _ c.in_err-file.field-0.0 under c.in_ok-answer.was
    c.deref.ensures.value c.in_err-file.ensures.taken c.in_err-file.ensures.refused)

pub loop-answer-preserved : goal.loop-answer-preserved
loop-answer-preserved c =
    let all = contents c.args.inputs.now in
    let at = c.loop-answer in
    let steps = c.in-Some.ensures.steps in
    let under = subst (IsUnder all at.files.items) steps.0 at.invariant.0 in (
      under_more all at.files.items (into_iter_items c.next.new.self) c.in-Some.answer c.in_ok-answer.field-0 c.in_ok-file.file _ c.push.new.self.items under c.in_ok-answer.was
          c.in_ok-file.ensures.same c.deref.ensures.value c.in_ok-file.ensures.free c.in_ok-push.ensures.items,
      let was = at.invariant.1 in
          let gone = steps.1 in
          let short = ap length steps.0 in
          omega arith,
    )

pub returns-clause-files : goal.returns-clause-files
returns-clause-files c =
    let at = c.loop-answer in
    let none = nothing_left (into_iter_items at.answer-iterator) (sym at.invariant.1 ∙ c.in-None.ensures.steps.0) in
    (under_all (contents c.args.inputs.now) at.files.items (subst (IsUnder (contents c.args.inputs.now) at.files.items) none at.invariant.0)).spelled

pub returns-clause-count : goal.returns-clause-count
returns-clause-count c =
    let at = c.loop-answer in
    let none = nothing_left (into_iter_items at.answer-iterator) (sym at.invariant.1 ∙ c.in-None.ensures.steps.0) in
    (under_all (contents c.args.inputs.now) at.files.items (subst (IsUnder (contents c.args.inputs.now) at.files.items) none at.invariant.0)).count
    ∙ contents_count c.args.inputs.now

pub returns-clause-fitting : goal.returns-clause-fitting
returns-clause-fitting c =
    let at = c.loop-answer in
    let none = nothing_left (into_iter_items at.answer-iterator) (sym at.invariant.1 ∙ c.in-None.ensures.steps.0) in
    (under_all (contents c.args.inputs.now) at.files.items (subst (IsUnder (contents c.args.inputs.now) at.files.items) none at.invariant.0)).fitting

pub returns-clause-free : goal.returns-clause-free
returns-clause-free c =
    let at = c.loop-answer in
    let none = nothing_left (into_iter_items at.answer-iterator) (sym at.invariant.1 ∙ c.in-None.ensures.steps.0) in
    (under_all (contents c.args.inputs.now) at.files.items (subst (IsUnder (contents c.args.inputs.now) at.files.items) none at.invariant.0)).free

pub returns-clause-accepted : goal.returns-clause-accepted
returns-clause-accepted c =
    let at = c.loop-answer in
    let none = nothing_left (into_iter_items at.answer-iterator) (sym at.invariant.1 ∙ c.in-None.ensures.steps.0) in
    (under_all (contents c.args.inputs.now) at.files.items (subst (IsUnder (contents c.args.inputs.now) at.files.items) none at.invariant.0)).good
