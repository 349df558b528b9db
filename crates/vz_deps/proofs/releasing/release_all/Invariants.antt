use Rattle.std.proofs.Common.{◌≡◌, ◌≤◌, ◌+◌, ◌++◌, ℕ, nat_eq, cond, true, None, length, map, filter, drop}
use Rattle.std.specs.Map.{lookup}
use Rattle.indexmap.specs.IndexMap.{spare}
use Rattle.vz_deps.specs.Lacking.{is_in}
use Rattle.vz_deps.specs.Ordered.{in_order, never_falls}
use Rattle.vz_deps.specs.Numbering.{IsNumbered}
use Rattle.vz_deps.proofs.releasing.release_all.Given as goal

-- those of the numbers so far are out and gone
abbrev pub invariant-loop-order : goal.invariant-loop-order
invariant-loop-order l =
    IsNumbered l.subs.entries l.numbers.entries
    × ((o : ℕ) → cond (is_in o (drop l.order-index l.freed)) None (lookup (nat_eq o) l.subs.entries) ≡ cond (is_in o l.freed) None (lookup (nat_eq o) l.fn.subs.entries))
    × ((o : ℕ) → cond (is_in o (drop l.order-index l.freed)) None (lookup (nat_eq o) l.counts.entries) ≡ cond (is_in o l.freed) None (lookup (nat_eq o) l.fn.counts.entries))
    × (length l.counts.entries ≤ length l.fn.counts.entries)
    × (l.out.list ++ map (λ e. e.1) (filter (λ e. is_in e.0 (drop l.order-index l.freed)) (in_order l.subs.entries)) ≡ l.fn.out.list ++ map (λ e. e.1) (filter (λ e. is_in e.0 l.freed) (in_order l.fn.subs.entries)))
    × (l.out.spare + length l.out.list ≡ l.fn.out.spare + length l.fn.out.list)
    × (spare l.fn.subs ≤ spare l.subs)
    × (spare l.fn.numbers ≤ spare l.numbers)
    × (spare l.fn.counts ≤ spare l.counts)
    × (never_falls (drop l.order-index l.freed) ≡ true)
