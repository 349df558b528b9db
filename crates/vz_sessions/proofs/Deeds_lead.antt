-- A session leads to a legal history of the plan of all messages that were sent.
use Rattle.std.proofs.Common.{◌≡◌, ℕ, ◌-◌, ◌<◌, Bool, true, false, ◌&&◌, Option, Some, List, [], ◌∷◌, ◌++◌, refl, ap, sym, ◌∙◌, arith, subst}
use Rattle.std.specs.Prelude.{not, IsFalse}
use Rattle.std.specs.List.{list_all}
use Rattle.std.proofs.lemmas.Bool.{and_parts}
use Rattle.vz_frame.specs.declared.message.ClientFile.{ClientFile}
use Rattle.vz_rules.specs.Plan.{Plan, IsPlan}
use Rattle.vz_rules.specs.declared.entry.Event.TheVariants as event
use Rattle.vz_rules.specs.declared.entry.Entry.{Entry}
use Rattle.vz_rules.specs.World.{file_of}
use Rattle.vz_rules.specs.Step.{world, entry_in, NamesClient, LegalFrom, Legal}
use Rattle.vz_rules.specs.Whole.{is_of}
use Rattle.vz_rules.proofs.Members.{at_within}
use Rattle.vz_rules.proofs.Runs.{world-more, legal-more}
use Rattle.vz_sessions.specs.Grown.{grown, is_miss, NeverMisses, HasRoom}
use Rattle.vz_sessions.specs.Session.{Session, Deed, Sends, Does, after_deed, after_deeds, after_one, after_all, machine_of, IsAllowed, AreAllowed, NoneMisses, IsSession}
use Rattle.vz_sessions.proofs.Grown_goes_on.{grown_legal, grown_world, grown_plan}

-- no client misses if none does
never_one : (c : ℕ) (h : List Entry) → NoneMisses h → NeverMisses c h
never_one c [] n = refl
never_one c (e ∷ h) n =
    let b = and_parts (not (is_miss e.reply)) (list_all (λ x. not (is_miss x.reply)) h) n in
    ap (λ t. t && list_all (λ x. not (is_of c x && is_miss x.reply)) h) (fewer (is_of c e) (is_miss e.reply) b.0) ∙ never_one c h b.1
  where
    fewer : (a b : Bool) → not b ≡ true → not (a && b) ≡ true
    fewer true b h = h
    fewer false b h = refl

not_missed : (t : Bool) → t ≡ false → not t ≡ true
not_missed true e = absurd (cc)
not_missed false e = refl

none_more : (h : List Entry) (e : Entry) → NoneMisses h → IsFalse (is_miss e.reply) → NoneMisses (h ++ e ∷ [])
none_more [] e n miss = ap (λ b. b && true) (not_missed (is_miss e.reply) miss)
none_more (x ∷ h) e n miss =
    let b = and_parts (not (is_miss x.reply)) (list_all (λ y. not (is_miss y.reply)) h) n in
    ap (λ t. t && list_all (λ y. not (is_miss y.reply)) (h ++ e ∷ [])) b.0 ∙ none_more h e b.1 miss

-- the one file at a place
same_file : (f g : ClientFile) (o : Option ClientFile) → o ≡ Some f → o ≡ Some g → f ≡ g
same_file f g o h k = let e : ◌≡◌ {A = Option ClientFile} (Some f) (Some g) = sym h ∙ k in cc

names_found : (p : Plan) (c : ℕ) (f : ClientFile) → 0 < c → file_of p c ≡ Some f → NamesClient p (event.Client c)
names_found p c f low at = let r = at_within p.files (c - 1) f at in (low, omega (arith, low, r))

-- One deed

deed_keeps : (s : Session) (d : Deed) → IsSession s → IsAllowed s d → IsSession (after_deed s d)
unfolding after_deed entry_in
deed_keeps s (Sends c m) is a =
    let names = names_found s.plan c a.1.0 a.0 a.1.1 in
    record {
      plan = grown_plan s.plan c m is.plan (λ f at. subst (λ g. HasRoom g m) (same_file a.1.0 f (file_of s.plan c) a.1.1 at) a.1.2);
      legal = grown_legal s.plan s.told c m names (never_one c s.told is.none_misses) is.legal;
      none_misses = is.none_misses;
    }
deed_keeps s (Does e) is a =
    let entry = entry_in s.plan (world s.plan s.told) e in
    record {
      plan = is.plan;
      legal = legal-more s.plan s.told entry is.legal a.0 refl;
      none_misses = none_more s.told entry is.none_misses a.1;
    }

deed_leads : (s : Session) (d : Deed) → IsSession s → IsAllowed s d → after_one (machine_of s) d ≡ machine_of (after_deed s d)
unfolding after_deed after_one entry_in
deed_leads s (Sends c m) is a =
    let names = names_found s.plan c a.1.0 a.0 a.1.1 in
    ap (λ w. record { plan = grown s.plan c m; world = w }) (sym (grown_world s.plan s.told c m names (never_one c s.told is.none_misses) is.legal))
deed_leads s (Does e) is a = ap (λ w. record { plan = s.plan; world = w }) (sym (world-more s.plan s.told (entry_in s.plan (world s.plan s.told) e)))

-- All deeds

pub deeds_keep : (s : Session) (ds : List Deed) → IsSession s → AreAllowed s ds → IsSession (after_deeds s ds)
unfolding after_deeds AreAllowed
deeds_keep s [] is a = is
deeds_keep s (d ∷ ds) is a = deeds_keep (after_deed s d) ds (deed_keeps s d is a.0) a.1

pub deeds_lead : (s : Session) (ds : List Deed) → IsSession s → AreAllowed s ds → after_all (machine_of s) ds ≡ machine_of (after_deeds s ds)
unfolding after_deeds after_all AreAllowed
deeds_lead s [] is a = refl
deeds_lead s (d ∷ ds) is a = ap (λ m. after_all m ds) (deed_leads s d is a.0) ∙ deeds_lead (after_deed s d) ds (deed_keeps s d is a.0) a.1

-- a session begins with any plan
pub session_opens : (p : Plan) → IsPlan p → IsSession (record { plan = p; told = [] })
unfolding Legal LegalFrom
session_opens p is = record { plan = is; legal = tt; none_misses = refl }
