use Rattle.std.proofs.Common.{◌+◌, ◌++◌, ◌∷◌, [], sym, ap, ◌∙◌, length}
use Rattle.std.specs.Option.{option_copied}
use Rattle.vz_rules.specs.{Paint.on_path, Walk.Shows, Walk.walk}
use Rattle.vz_scene.specs.Walking.{Cursor}
use Rattle.vz_scene.proofs.Stacking.{range_none, range_again, range_enters}
use Rattle.vz_scene.proofs.cursor.Cursor.range.Goals as goal

pub returns-in-None-clause-walked : goal.returns-in-None-clause-walked
returns-in-None-clause-walked c =
    let it = c.args.self.now in
    let window = c.window.ensures in
    range_none it.levels c.args.active.now it.path c.args.range c.args.place _ c.args.walked.now c.add_shows.new.self c.shown_frame-shown.ensures (ap option_copied c.in-None.is)
    (c.in_ok-add_shows.ensures.visits ∙ ap (λ v. c.args.walked.now ++ Shows c.args.range (option_copied c.shown_frame-shown.result) v ∷ []) window)

pub returns-then-is_on_path-clause-walked : goal.returns-then-is_on_path-clause-walked
returns-then-is_on_path-clause-walked c =
    let it = c.args.self.now in
    let window = c.window.ensures in
    let path = c.as_slice-path.ensures.value ∙ (ap (λ v. v.items) c.deref.ensures ∙ ap (λ (i : Cursor). i.path) c.self.view_is) in
    range_again it.levels c.args.active.now it.path c.args.range c.args.place _ c.in-Some.submitted.now c.args.walked.now c.add_shows.new.self c.shown_frame-shown.ensures (ap option_copied c.in-Some.is)
    (ap (λ l. on_path l c.in-Some.submitted.now) (sym path) ∙ (sym c.is_on_path.ensures ∙ c.if-is_on_path.true))
    (c.in_ok-add_shows.ensures.visits ∙ ap (λ v. c.args.walked.now ++ Shows c.args.range (option_copied c.shown_frame-shown.result) v ∷ []) window)

pub returns-in_ok-enter-in-Some-clause-walked : goal.returns-in_ok-enter-in-Some-clause-walked
returns-in_ok-enter-in-Some-clause-walked c =
    let it = c.args.self.now in
    let active = c.args.active.now in
    let submitted = c.in-Some.submitted.now in
    let place = c.args.place in
    let window = c.window.ensures in
    let path = c.as_slice-path.ensures.value ∙ (ap (λ v. v.items) c.deref.ensures ∙ ap (λ (i : Cursor). i.path) c.self.view_is) in
    let levels = ap (λ (i : Cursor). i.levels) c.self.view_is in
    range_enters it.levels active it.path c.args.range place _ submitted (length c.as_slice-path.result.now + 1) c.args.walked.now c.add_shows.new.self c.add_enters.new.self _
    c.shown_frame-shown.ensures (ap option_copied c.in-Some.is) (ap (λ l. on_path l submitted) (sym path) ∙ (sym c.is_on_path.ensures ∙ c.if-is_on_path.false))
    (c.in_ok-add_shows.ensures.visits ∙ ap (λ v. c.args.walked.now ++ Shows c.args.range (option_copied c.shown_frame-shown.result) v ∷ []) window)
    c.in_ok-add_enters-in-Some.ensures.visits (ap (λ l. length l + 1) path)
    (c.in_ok-enter-in-Some.ensures active ∙ (ap (λ n. walk n active c.as_slice-path.result.now submitted place) levels ∙ ap (λ l. walk it.levels active l submitted place) path))

pub returns-in_ok-enter-in-Some-clause-weight : goal.returns-in_ok-enter-in-Some-clause-weight
returns-in_ok-enter-in-Some-clause-weight c = c.in_ok-add_enters-in-Some.ensures.weight ∙ c.in_ok-add_shows.ensures.weight
