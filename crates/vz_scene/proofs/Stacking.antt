-- The walk over a stack of what is still to be walked.
use Rattle.std.proofs.Common.{◌≡◌, ℕ, ◌+◌, ◌-◌, ◌*◌, ◌<◌, ◌≤◌, Bool, true, false, Option, Some, None, List, [], ◌∷◌, ◌++◌, take, length, get_or, reverse, slice_get, refl, sym, ap, ◌∙◌, arith, ◌||◌, nat_lt}
use Rattle.std.proofs.{lemmas.Bool.Decides.nat_tests, lemmas.Option.slice_get-get_or}
use Rattle.std.proofs.{lemmas.List.Folds.list_any-append, lemmas.List.Sums.sum_by-append, lemmas.Grind.take_at_read, lemmas.Grind.common_steps}
use Rattle.std.proofs.lemmas.List.{reverse-append, take_all, append-nil, drop_all, drop_more}
use Rattle.vz_frame.specs.{declared.frame.RenderPass.RenderPass, Frame.names_pass, declared.frame.Material.Material}
use Rattle.vz_ids.specs.{declared.SurfaceId.SurfaceId, declared.SurfaceRange.SurfaceRange}
use Rattle.vz_rules.specs.{World.FrameData, Paint.on_path, Scene.shown_frame}
use Rattle.vz_rules.specs.Walk.{Placement, Visit, WalkRange, Quad, Shows, Enters, WalkNamed, place_in, pass_walked, quad_walked, groups_walked, root_walked, range_walked, walk, weight, too_much, is_deep}
use Rattle.std.specs.{List.flat_map, List.list_any, Option.option_to_list}
use Rattle.vz_geom.specs.Rectangle.{minus, corner}
use Rattle.vz_frame.specs.{declared.frame.DrawQuad.DrawQuad, declared.frame.Material.TheVariants.Surface, declared.frame.Material.TheVariants.Pass}
use Rattle.vz_scene.specs.Walking.{Cursor, cursor_walked, stack_walked, maybe_walked, next_cursor, ranges_of, named_of, group_at, quads_from}

turned : (passes : List RenderPass) (k : ℕ) (d : RenderPass) → k < length passes → reverse (take (k + 1) passes) ≡ get_or passes k d ∷ reverse (take k passes)
turned passes k d h = ap reverse (take_at_read passes k d h).1 ∙ reverse-append (take k passes) (get_or passes k d ∷ [])

-- a pass of another id is passed over
pub group_over : (ranges : WalkRange) (passes : List RenderPass) (j k id : ℕ) (d : RenderPass) (place : Placement) → k + 1 ≡ j → k < length passes → names_pass id (get_or passes k d) ≡ false
    → groups_walked ranges (reverse (take j passes)) id place ≡ groups_walked ranges (reverse (take k passes)) id place
unfolding groups_walked
group_over ranges passes j k id d place e h named = grind (arith, nat_tests, turned passes k d h)

-- the pass of the id is met
pub group_found : (ranges : WalkRange) (passes : List RenderPass) (j k id : ℕ) (d : RenderPass) (place : Placement) → k + 1 ≡ j → k < length passes → names_pass id (get_or passes k d) ≡ true
    → groups_walked ranges (reverse (take j passes)) id place ≡ group_at ranges passes place (Some k)
unfolding groups_walked
group_found ranges passes j k id d place e h named = grind (arith, nat_tests, turned passes k d h, slice_get-get_or passes k d h)

-- there is no further pass
pub group_none : (ranges : WalkRange) (passes : List RenderPass) (k id : ℕ) (place : Placement) → k ≤ 0 → groups_walked ranges (reverse (take k passes)) id place ≡ []
unfolding groups_walked
group_none ranges passes k id place h = grind (arith, nat_tests)

-- the cursor of a surface that is gone into
abbrev pub cursor_in : ℕ → List SurfaceId → FrameData → Placement → Cursor
cursor_in levels path i place =
    record { levels = levels - 1; path = i.id ∷ path; submitted = i; pass = length i.frame.passes - 1; quad = 0; place = place }

-- with no surface left nothing is walked
pub enter_zero : (n : ℕ) (active : List FrameData) (path : List SurfaceId) (i : FrameData) (place : Placement) → n ≡ 0 → [] ≡ walk n active path i place
unfolding walk
enter_zero n active path i place e = sym (ap (λ k. walk k active path i place) e)

root_none : (ranges : WalkRange) (passes : List RenderPass) (place : Placement) → length passes ≡ 0 → root_walked ranges (reverse passes) place ≡ []
unfolding root_walked
root_none ranges [] place e = refl
root_none ranges (p ∷ ps) place e = absurd (omega arith)

-- nor in a frame without passes
pub enter_none : (n : ℕ) (active : List FrameData) (path : List SurfaceId) (i : FrameData) (place : Placement) → length i.frame.passes ≡ 0 → [] ≡ walk n active path i place
unfolding walk
enter_none n active path i place e = grind (arith, nat_tests, root_none)

root_last : (ranges : WalkRange) (passes : List RenderPass) (place : Placement) (n : ℕ) (d : RenderPass) → n + 1 ≡ length passes
    → quads_from ranges passes n place 0 (slice_get passes n) ≡ root_walked ranges (reverse passes) place
unfolding root_walked pass_walked
root_last ranges passes place n d e = grind (arith, nat_tests, take_all, turned passes n d, slice_get-get_or passes n d)

root_end : (ranges : WalkRange) (passes : List RenderPass) (place : Placement) (n : ℕ) → n + 1 ≡ length passes → quads_from ranges passes n place 0 (slice_get passes n) ≡ root_walked ranges (reverse passes) place
root_end ranges [] place n e = absurd (omega arith)
root_end ranges (p ∷ ps) place n e = root_last ranges (p ∷ ps) place n p e

-- the root pass is to be walked
pub enter_is : (n : ℕ) (active : List FrameData) (path : List SurfaceId) (i : FrameData) (place : Placement) → 0 < n → 0 < length i.frame.passes
    → cursor_walked active (cursor_in n path i place) ≡ walk n active path i place
unfolding walk cursor_walked
enter_is n active path i place h k = grind (arith, nat_tests, root_end)

-- what a range gives, by what it shows and whether that is on the path
abbrev range_by : ℕ → List FrameData → List SurfaceId → SurfaceRange → Placement → Option FrameData → List Visit
range_by n active path range place o =
    Shows range o place.window ∷ (elim o [
      | None ↦ []
      | Some i ↦ elim (on_path path i) [ true ↦ [] | false ↦ Enters (length path + 1) i place ∷ walk n active path i place ]
    ])

range_is : (n : ℕ) (active : List FrameData) (path : List SurfaceId) (range : SurfaceRange) (place : Placement) → range_walked (walk n active) active path range place ≡ range_by n active path range place (shown_frame active range)
unfolding range_walked
range_is n active path range place = refl

-- nothing is shown
pub range_none : (n : ℕ) (active : List FrameData) (path : List SurfaceId) (range : SurfaceRange) (place : Placement) (o : Option FrameData) (old new : List Visit)
    → o ≡ shown_frame active range → o ≡ None → new ≡ old ++ Shows range o place.window ∷ [] → new ++ [] ≡ old ++ range_walked (walk n active) active path range place
range_none n active path range place o old new e is h = grind (arith, nat_tests, append-nil new, range_is n active path range place)

-- what is shown is on the path
pub range_again : (n : ℕ) (active : List FrameData) (path : List SurfaceId) (range : SurfaceRange) (place : Placement) (o : Option FrameData) (i : FrameData) (old new : List Visit)
    → o ≡ shown_frame active range → o ≡ Some i → on_path path i ≡ true → new ≡ old ++ Shows range o place.window ∷ [] → new ++ [] ≡ old ++ range_walked (walk n active) active path range place
range_again n active path range place o i old new e is on h = grind (arith, nat_tests, append-nil new, range_is n active path range place)

-- what is shown is gone into
pub range_enters : (n : ℕ) (active : List FrameData) (path : List SurfaceId) (range : SurfaceRange) (place : Placement) (o : Option FrameData) (i : FrameData) (depth : ℕ) (old new newer rest : List Visit)
    → o ≡ shown_frame active range → o ≡ Some i → on_path path i ≡ false → new ≡ old ++ Shows range o place.window ∷ [] → newer ≡ new ++ Enters depth i place ∷ [] → depth ≡ length path + 1
    → rest ≡ walk n active path i place → newer ++ rest ≡ old ++ range_walked (walk n active) active path range place
range_enters n active path range place o i depth old new newer rest e is on h k deep r = grind (arith, nat_tests, common_steps, range_is n active path range place)

-- the last cursor, and the rest of the stack
pub stack_more : (active : List FrameData) (items : List Cursor) (it : Cursor) → stack_walked active (items ++ it ∷ []) ≡ cursor_walked active it ++ stack_walked active items
unfolding stack_walked
stack_more active items it = ap (flat_map (cursor_walked active)) (reverse-append items (it ∷ []))

pass_there : (it : Cursor) (passes : List RenderPass) (k : ℕ) (p : RenderPass) → passes ≡ it.submitted.frame.passes → k ≡ it.pass → k < length passes → p ≡ get_or passes k p → slice_get it.submitted.frame.passes it.pass ≡ Some p
pass_there it passes k p e f h is = ap (λ l. slice_get l it.pass) (sym e) ∙ (ap (slice_get passes) (sym f) ∙ (slice_get-get_or passes k p h ∙ ap (λ x. Some x) (sym is)))

-- there is no further quad
pub cursor_done : (active : List FrameData) (it : Cursor) (passes : List RenderPass) (k n : ℕ) (p : RenderPass) (quads : List DrawQuad) → passes ≡ it.submitted.frame.passes → k ≡ it.pass → k < length passes
    → p ≡ get_or passes k p → quads ≡ p.quads → n ≡ it.quad → length quads ≤ n → cursor_walked active it ≡ []
unfolding cursor_walked
cursor_done active it passes k n p quads e f h is g m past = grind (arith, nat_tests, pass_there it passes k p e f h is, drop_all n quads past)

-- the next quad, and those behind it
pub cursor_next : (active : List FrameData) (it : Cursor) (passes : List RenderPass) (k n : ℕ) (p : RenderPass) (quads : List DrawQuad) (q : DrawQuad) → passes ≡ it.submitted.frame.passes → k ≡ it.pass → k < length passes
    → p ≡ get_or passes k p → quads ≡ p.quads → n ≡ it.quad → n < length quads → q ≡ get_or quads n q
    → cursor_walked active it ≡ quad_walked (named_of active it) (ranges_of active it) p it.place q ++ cursor_walked active (next_cursor it)
unfolding cursor_walked
cursor_next active it passes k n p quads q e f h is g m within here = grind (arith, nat_tests, pass_there it passes k p e f h is, drop_more quads n q within)

-- the pass of an id, seen as a group
pub cursor_group : (active : List FrameData) (it v : Cursor) → v ≡ it → (passes : List RenderPass) (before k id : ℕ) (o : Option ℕ) (p : RenderPass) (place inside : Placement) (path : List SurfaceId)
    → passes ≡ v.submitted.frame.passes → before ≡ v.pass
    → ((ranges : WalkRange) (at_place : Placement) → groups_walked ranges (reverse (take before passes)) id at_place ≡ group_at ranges passes at_place o) → o ≡ Some k → k < length passes → p ≡ get_or passes k p
    → inside ≡ record place { shift = minus place.shift (corner p.output) } → path ≡ v.path
    → cursor_walked active (record v { path = path; pass = k; quad = 0; place = inside }) ≡ groups_walked (ranges_of active it) (reverse (take it.pass it.submitted.frame.passes)) id place
unfolding cursor_walked pass_walked
cursor_group active it v e passes before k id o p place inside path f g found is h here at same = grind (arith, nat_tests, slice_get-get_or passes k p h)

-- what is met in what a quad draws, by its material
abbrev pub inner_of : WalkNamed → WalkRange → RenderPass → Placement → DrawQuad → Material → List Visit
inner_of named ranges pass place quad m =
    elim m [
      | Pass id ↦ named id (place_in place pass quad)
      | Surface range background ↦ ranges range (place_in place pass quad)
      | _ ↦ []
    ]

-- a quad, and what is met in what it draws
pub quad_more : (named : WalkNamed) (ranges : WalkRange) (pass : RenderPass) (place : Placement) (quad : DrawQuad) (m : Material) (old new inner : List Visit) → quad.material ≡ m → new ≡ old ++ Quad ∷ []
    → inner ≡ inner_of named ranges pass place quad m → new ++ inner ≡ old ++ quad_walked named ranges pass place quad
unfolding quad_walked
quad_more named ranges pass place quad m old new inner e h is = grind (arith, nat_tests, common_steps)

pub maybe_stack : (active : List FrameData) (items : List Cursor) (o : Option Cursor) → stack_walked active (items ++ option_to_list o) ≡ maybe_walked active o ++ stack_walked active items
maybe_stack active items o = grind (arith, nat_tests, append-nil items, stack_more)

-- the stack gains a cursor and another one, if it is there
pub pushed_few : (items pushed all : List Cursor) (next : Cursor) (o : Option Cursor) → pushed ≡ items ++ next ∷ [] → all ≡ pushed ++ option_to_list o → length all ≤ length items + 2
pushed_few items pushed all next o p a = grind (arith, nat_tests, common_steps)

-- one quad of the last cursor was walked
pub advanced : (active : List FrameData) (it next : Cursor) (items pushed all : List Cursor) (o : Option Cursor) (quad old new : List Visit) → cursor_walked active it ≡ quad ++ cursor_walked active (next_cursor it) → next ≡ next_cursor it
    → new ++ maybe_walked active o ≡ old ++ quad → pushed ≡ items ++ next ∷ [] → all ≡ pushed ++ option_to_list o
    → new ++ stack_walked active all ≡ old ++ (cursor_walked active it ++ stack_walked active items)
advanced active it next items pushed all o quad old new e f h p a = grind (arith, nat_tests, common_steps, maybe_stack active pushed o, stack_more active items next)

-- what begins with too much is too much
pub too_much_front : (xs ys : List Visit) → too_much xs ≡ true → too_much (xs ++ ys) ≡ true
unfolding too_much weight
too_much_front xs ys h = grind (arith, nat_tests, sum_by-append, list_any-append)

few_by : (n : ℕ) (deep : Bool) → (nat_lt 65536 n || deep) ≡ false → n ≤ 65536
few_by n deep e = grind (arith, nat_tests)

-- what is not too much has few quads
pub little_is_few : (visits : List Visit) → too_much visits ≡ false → weight visits ≤ 65536
unfolding too_much
little_is_few visits e = few_by (weight visits) (list_any is_deep visits) e

-- a turn leaves less to be walked
pub turn_is_less : (old new : List Visit) (before popped after : List Cursor) (it : Cursor) → too_much old ≡ false → before ≡ popped ++ it ∷ [] → length after + 2 * weight old ≤ length popped + 2 * weight new
    → weight new ≤ weight old + 1 → 2 * (65537 - weight new) + length after < 2 * (65537 - weight old) + length before
turn_is_less old new before popped after it little pop stack one = grind (arith, nat_tests, common_steps, little_is_few old little)

-- nothing is left on the stack
pub stack_empty : (active : List FrameData) (items : List Cursor) → length items ≡ 0 → stack_walked active items ≡ []
unfolding stack_walked
stack_empty active [] e = refl
stack_empty active (x ∷ xs) e = absurd (omega arith)

-- the cursor that leaves the stack comes first
pub stack_pop : (active : List FrameData) (old new : List Cursor) (it : Cursor) → old ≡ new ++ it ∷ [] → stack_walked active old ≡ cursor_walked active it ++ stack_walked active new
stack_pop active old new it e = ap (stack_walked active) e ∙ stack_more active new it
