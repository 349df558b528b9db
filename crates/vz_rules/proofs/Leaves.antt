-- What follows activation leaves which submissions have come.
use Rattle.std.proofs.Common.{◌≡◌, Bool, true, false, ◌&&◌, ◌||◌, List, [], ◌∷◌, map, refl, ap, ◌∙◌, cond}
use Rattle.std.specs.Prelude.{nat_le}
use Rattle.std.specs.List.{list_any, list_all}
use Rattle.vz_ids.specs.declared.Sub.{Sub}
use Rattle.vz_ids.specs.declared.SurfaceId.{SurfaceId}
use Rattle.vz_ids.specs.Ids.{same_sink, at_least}
use Rattle.vz_rules.specs.declared.entry.State.TheVariants.{Dropped}
use Rattle.vz_rules.specs.World.{World, Surface, Submission, is_waiting, is_active, is_on}
use Rattle.vz_rules.specs.Settle.{is_met, has_come}
use Rattle.vz_rules.specs.Reach.{naming, drop_on, lost_in, clearing, collect}
use Rattle.vz_rules.specs.Returns.{queue_returns, give_back, mark_fed, feed}
use Rattle.vz_rules.proofs.Members.{any_map}
use Rattle.vz_rules.proofs.Facts.{all_same}

map_twice : {A B C : Type 0} (f : A → B) (g : B → C) (xs : List A) → map g (map f xs) ≡ map (λ x. g (f x)) xs
map_twice f g [] = refl
map_twice f g (x ∷ xs) = ap (λ l. g (f x) ∷ l) (map_twice f g xs)

-- A world after collection, giving back and feedback

module _ (presented : List Sub) (w : World) where
  abbrev pub given : World
  given = give_back (collect w)

  abbrev pub after : World
  after = feed presented given

  abbrev pub lost : List Surface
  lost = lost_in (naming w)

  -- a submission after this
  abbrev pub left : Submission → Submission
  left s = mark_fed given presented (drop_on lost s)

  pub subs_after : after.subs ≡ map left w.subs
  unfolding feed give_back collect clearing naming
  subs_after = map_twice (drop_on lost) (mark_fed given presented) w.subs

  clients_after : after.clients ≡ map (queue_returns (collect w)) w.clients
  unfolding feed give_back collect clearing naming
  clients_after = refl

  tick_after : after.tick ≡ w.tick
  unfolding feed give_back collect clearing naming
  tick_after = refl

  pub dropped_rest : (t : Bool) (s : Submission) → ((cond t (record s { state = Dropped }) s).submitted ≡ s.submitted) × ((cond t (record s { state = Dropped }) s).was_active ≡ s.was_active)
      × ((cond t (record s { state = Dropped }) s).due ≡ s.due)
  dropped_rest true s = (refl, refl, refl)
  dropped_rest false s = (refl, refl, refl)

  abbrev pub drops : Submission → Bool
  drops s = (is_waiting s || is_active s) && list_any (λ c. is_on c.id s) lost

  same_met : (d : SurfaceId) → is_met after d ≡ is_met w d
  unfolding is_met
  same_met d =
      ap (λ b. b || list_any (λ c. c.closed && same_sink c.sink d.sink) after.clients)
      (ap (list_any (λ s. s.was_active && at_least s.submitted.id d)) subs_after
      ∙ any_map left (λ s. s.was_active && at_least s.submitted.id d) (λ s. s.was_active && at_least s.submitted.id d) w.subs (λ s.
      let r = dropped_rest (drops s) s in ap (λ b. b && at_least (drop_on lost s).submitted.id d) r.1 ∙ ap (λ i. s.was_active && at_least i.id d) r.0))
      ∙ ap (λ b. list_any (λ s. s.was_active && at_least s.submitted.id d) w.subs || b)
      (ap (list_any (λ c. c.closed && same_sink c.sink d.sink)) clients_after
      ∙ any_map (queue_returns (collect w)) (λ c. c.closed && same_sink c.sink d.sink) (λ c. c.closed && same_sink c.sink d.sink) w.clients (λ c. refl))

  -- as much has come as before
  pub same_come : (s : Submission) → has_come after s ≡ has_come w s
  unfolding has_come
  same_come s =
      ap (λ n. list_all (is_met after) s.submitted.frame.metadata.dependencies || nat_le s.due n) tick_after
      ∙ ap (λ b. b || nat_le s.due w.tick) (all_same (is_met after) (is_met w) s.submitted.frame.metadata.dependencies same_met)
