use Rattle.std.proofs.Common.{◌≡◌, ◌==◌, ap, ◌∙◌, refl, not, length, is_none}
use Rattle.std.specs.List.{list_any}
use Rattle.std.specs.Option.{option_copied}
use Rattle.vz_ids.specs.Ids.{is_good, same_surface}
use Rattle.vz_frame.specs.Checking.{in_passes}
use Rattle.vz_frame.specs.Frame.{bad_root, root_pass, has_repeat, names_pass, lists}
use Rattle.vz_frame.proofs.Tabling.{table_is, last_is_root, empty_is}
use Rattle.vz_frame.proofs.rules.broken_in.Goals as goal

-- each line of the table is what the frame breaks
pub returns : goal.returns
returns c =
    let frame = c.args.frame.now in
    let found = c.search_passes-found.result in
    let passes = c.as_slice-passes.ensures in
    let is : found ≡ in_passes frame.resources frame.passes = rw (c.search_passes-found.ensures, c.requires.listed, passes) refl in
    let empty : c.is_empty.result ≡ is_none (root_pass frame) = c.is_empty.ensures ∙ ap (λ l. length l == 0) passes ∙ empty_is frame.passes in
    let last : option_copied c.last.result ≡ root_pass frame = rw (c.last.ensures.value, passes) (last_is_root frame.passes) in
    let root : c.is_bad_root.result ≡ bad_root (root_pass frame) = c.is_bad_root.ensures ∙ ap bad_root last in
    let ids : c.has_repeat.result ≡ has_repeat (λ a b. names_pass a.id b) frame.passes = c.has_repeat.ensures ∙ ap (has_repeat (λ a b. names_pass a.id b)) c.requires.passes in
    let twice : c.has_repeat-2.result ≡ has_repeat (λ a b. lists a.id b) frame.resources = c.has_repeat-2.ensures ∙ ap (has_repeat (λ a b. lists a.id b)) c.requires.listed in
    let range : c.has_bad_range.result ≡ list_any (λ r. not (is_good r)) frame.metadata.references = c.has_bad_range.ensures ∙ ap (list_any (λ r. not (is_good r))) c.as_slice.ensures in
    let depends : c.has_repeat-3.result ≡ has_repeat same_surface frame.metadata.dependencies = c.has_repeat-3.ensures ∙ ap (has_repeat same_surface) c.as_slice-2.ensures in
    c.first_said.ensures ∙ table_is frame found c.is_empty.result c.is_bad_root.result c.has_repeat.result c.has_repeat-2.result c.has_bad_range.result c.has_repeat-3.result is empty root ids twice range depends
