use Rattle.std.proofs.Common.{rules}
use Rattle.std.proofs.lemmas.List.Sorted.{answers_always}
use Rattle.vz_frame.proofs.Gaps.{searched}
use Rattle.vz_frame.proofs.id_map.IdMap.search.Goals as goal

-- the closure gives a pair's id, and the slice is the map's pairs
pub returns : goal.returns
returns c =
    let facts = c.binary_search_by_key.ensures in
    let by_id = facts.position (λ pair. pair.0) (answers_always _ _ _ (λ f a r g called. search rules)) in
    rw (← c.self.view_is, ← c.as_slice.ensures.value) (searched c.as_slice.result.now (rw c.as_slice.ensures.value c.self.invariant) c.args.id _ facts.bound by_id)
