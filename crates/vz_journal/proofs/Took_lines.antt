-- Lines that are read are written so, and can be named.
use Rattle.std.proofs.Common.{◌≡◌, ℕ, zero, suc, ◌+◌, Bool, true, ◌&&◌, ◌==◌, ltb, leb, codes, List, [], ◌∷◌, ◌++◌, length, Some, None, refl, sym, ap, ◌∙◌, subst, append_assoc, arith, le-leb, eqb-true, decimal}
use Rattle.std.specs.Fmt.{digits}
use Rattle.std.specs.List.{list_all, flat_map}
use Rattle.std.proofs.lemmas.Bool.{and_parts, and_from}
use Rattle.vz_frame.specs.declared.rules.Rule.{Rule}
use Rattle.vz_frame.specs.declared.rules.Rule.TheVariants.{NoPass, BadRoot, PassIds, PassOrder, VisibleOutside, UnlistedResource, ListedTwice, TileOutside, BadRange, BadDependency, DamageOutside}
use Rattle.vz_rules.specs.declared.entry.Event.{Event}
use Rattle.vz_rules.specs.declared.entry.Event.TheVariants as event
use Rattle.vz_rules.specs.declared.entry.Reply.{Reply}
use Rattle.vz_rules.specs.declared.entry.Reply.TheVariants as reply
use Rattle.vz_rules.specs.declared.entry.Refusal.{Refusal}
use Rattle.vz_rules.specs.declared.entry.Refusal.TheVariants as refusal
use Rattle.vz_rules.specs.Log.{then_number, event_text, rule_number, refusal_text, reply_text, effects_text, entry_text, held_text, open_text}
use Rattle.vz_rules.specs.Log.{is_log_client, has_text_sub, has_text_return, has_text_effects, has_text_damage, answers_client, answers, has_text_entry}
use Rattle.vz_journal.specs.Reading.{Read, begins, after, with_first, items_at, all_at, activated_at, destroyed_at, returned_at, effects_at, plain_events, client_event_at, event_at}
use Rattle.vz_journal.specs.Reading.{rule_of, refusal_of, malformed_at, refused_at, accepted_at, began_at, reclaim_at, client_replies, client_reply_at, ticked_at, drawn_on, is_drawn, drawn_at, draw_replies, draw_reply_at, done_replies, over_replies, reply_at, entry_at, held_at, open_at}
use Rattle.vz_journal.proofs.Chosen.{then_some, tested_some, some_is, none_is_not, chosen, by_number, joined}
use Rattle.vz_journal.proofs.Took.{Took, Taking, from_step, finish, both, begins_took, words, one_of_words, next_numbers, next_counts, clients, subs, returns, reclaims, activateds, destroyeds, returneds, feds}

-- ---- items in a row

-- the items that were read are those of these bytes
abbrev pub RowTook : {A : Type 0} → (A → List ℕ) → (A → Bool) → List ℕ → List A × List ℕ → Type 0
RowTook text good bytes x = Took bytes (flat_map text x.0) x.1 (list_all good x.0)

first_took : {A : Type 0} (text : A → List ℕ) (good : A → Bool) (bytes : List ℕ) (others : List ℕ → List A × List ℕ) (r : Read A) → ((a : A × List ℕ) → r ≡ Some a → Took bytes (text a.0) a.1 (good a.0))
    → ((rest : List ℕ) → RowTook text good rest (others rest)) → RowTook text good bytes (with_first r bytes others)
first_took text good bytes others None first next = record { parts = refl; fits = refl }
first_took text good bytes others (Some a) first next = both (first a refl) (next a.1)

pub items_took : {A : Type 0} (read : List ℕ → Read A) (text : A → List ℕ) (good : A → Bool) → Taking read text good → (n : ℕ) (bytes : List ℕ)
    → Took bytes (flat_map text (items_at read n bytes).0) (items_at read n bytes).1 (list_all good (items_at read n bytes).0)
unfolding items_at
items_took read text good t zero bytes = record { parts = refl; fits = refl }
items_took {A} read text good t (suc n) bytes = first_took text good bytes (items_at read n) (read bytes) (λ a e. t.law bytes a e) (λ rest. items_took read text good t n rest)

pub all_took : {A : Type 0} {read : List ℕ → Read A} {text : A → List ℕ} {good : A → Bool} → Taking read text good → (bytes : List ℕ)
    → Took bytes (flat_map text (all_at read bytes).0) (all_at read bytes).1 (list_all good (all_at read bytes).0)
all_took {A} {read} {text} {good} t bytes = items_took read text good t (length bytes) bytes

-- ---- events

-- the event and the blank behind it
abbrev pub event_word : Event → List ℕ
event_word e = event_text e ++ 32 ∷ []

-- an event that can be named
abbrev pub has_text_event : Event → Bool
has_text_event (event.Client c) = is_log_client c
has_text_event event.Begin = true
has_text_event event.Draw = true
has_text_event event.Done = true
has_text_event event.Over = true

client_events : (bytes : List ℕ) (x : Event × List ℕ) → client_event_at bytes ≡ Some x → Took (99 ∷ bytes) (event_word x.0) x.1 (has_text_event x.0)
unfolding client_event_at event_text
client_events bytes x e =
    from_step clients bytes _ x e (λ c t0 e1.
    from_step (words (codes " ")) c.1 _ x e1 (λ blank t1 e2.
    let t = both t0 t1 in
    finish event_word has_text_event e2 (record { parts = ap (λ s. 99 ∷ s) t.parts; fits = t0.fits })))

pub events : Taking event_at event_word has_text_event
unfolding event_at event_text
events = record {
  law = λ bytes x e.
      chosen (begins (codes "c") bytes) _ _ (Some x) e
      (λ there e1.
      let t = client_events (after (codes "c") bytes) x e1 in
      record { parts = begins_took (codes "c") bytes there ∙ t.parts; fits = t.fits })
      (λ _ e1. (one_of_words event_word has_text_event plain_events (refl, refl, (refl, refl, (refl, refl, (refl, refl, tt))))).law bytes x e1);
}

-- ---- refusals

decimals : (decimal 1 ≡ codes "1") × (decimal 2 ≡ codes "2") × (decimal 3 ≡ codes "3") × (decimal 4 ≡ codes "4") × (decimal 5 ≡ codes "5") × (decimal 6 ≡ codes "6")
    × (decimal 7 ≡ codes "7") × (decimal 8 ≡ codes "8") × (decimal 9 ≡ codes "9") × (decimal 10 ≡ codes "10") × (decimal 11 ≡ codes "11") × (decimal 12 ≡ codes "12")
unfolding digits
decimals = (refl, refl, refl, refl, refl, refl, refl, refl, refl, refl, refl, refl)

pub decimal_of : (decimal 1 ≡ codes "1") × (decimal 2 ≡ codes "2") × (decimal 3 ≡ codes "3") × (decimal 4 ≡ codes "4") × (decimal 5 ≡ codes "5") × (decimal 6 ≡ codes "6")
    × (decimal 7 ≡ codes "7") × (decimal 8 ≡ codes "8") × (decimal 9 ≡ codes "9") × (decimal 10 ≡ codes "10") × (decimal 11 ≡ codes "11") × (decimal 12 ≡ codes "12")
decimal_of = decimals

-- the rule of a number has that number
rule_named : (n : ℕ) (r : Rule) → rule_of n ≡ Some r → rule_number r ≡ n
unfolding rule_of rule_number
rule_named n r e =
    by_number n 1 NoPass r _ e (λ same is. ap rule_number (sym is) ∙ sym same) (λ e1.
    by_number n 2 BadRoot r _ e1 (λ same is. ap rule_number (sym is) ∙ sym same) (λ e2.
    by_number n 3 PassIds r _ e2 (λ same is. ap rule_number (sym is) ∙ sym same) (λ e3.
    by_number n 4 PassOrder r _ e3 (λ same is. ap rule_number (sym is) ∙ sym same) (λ e4.
    by_number n 5 VisibleOutside r _ e4 (λ same is. ap rule_number (sym is) ∙ sym same) (λ e5.
    by_number n 6 UnlistedResource r _ e5 (λ same is. ap rule_number (sym is) ∙ sym same) (λ e6.
    by_number n 7 ListedTwice r _ e6 (λ same is. ap rule_number (sym is) ∙ sym same) (λ e7.
    by_number n 8 TileOutside r _ e7 (λ same is. ap rule_number (sym is) ∙ sym same) (λ e8.
    by_number n 9 BadRange r _ e8 (λ same is. ap rule_number (sym is) ∙ sym same) (λ e9.
    by_number n 10 BadDependency r _ e9 (λ same is. ap rule_number (sym is) ∙ sym same) (λ e10.
    by_number n 11 DamageOutside r None e10 (λ same is. ap rule_number (sym is) ∙ sym same) (λ e11. none_is_not r e11)))))))))))

named : (n k : ℕ) (x r : Refusal) → n ≡ k → x ≡ r → refusal_text x ≡ decimal k → refusal_text r ≡ decimal n
named n k x r same is text = ap refusal_text (sym is) ∙ text ∙ ap decimal (sym same)

-- the refusal of a number is written as that number
refusal_named : (n : ℕ) (r : Refusal) → refusal_of n ≡ Some r → refusal_text r ≡ decimal n
unfolding refusal_of refusal_text
refusal_named n r e =
    by_number n 1 refusal.AlreadyClosed r _ e (λ same is. named n 1 _ r same is (sym decimal_of.0)) (λ e1.
    by_number n 3 refusal.UnknownResource r _ e1 (λ same is. named n 3 _ r same is (sym decimal_of.2)) (λ e2.
    by_number n 4 refusal.InvariantsViolation r _ e2 (λ same is. named n 4 _ r same is (sym decimal_of.3)) (λ e3.
    by_number n 5 refusal.SizeMismatch r _ e3 (λ same is. named n 5 _ r same is (sym decimal_of.4)) (λ e4.
    by_number n 6 refusal.InUse r _ e4 (λ same is. named n 6 _ r same is (sym decimal_of.5)) (λ e5.
    by_number n 7 refusal.NotRoot r _ e5 (λ same is. named n 7 _ r same is (sym decimal_of.6)) (λ e6.
    by_number n 8 refusal.Loop r _ e6 (λ same is. named n 8 _ r same is (sym decimal_of.7)) (λ e7.
    by_number n 9 refusal.UnknownSink r _ e7 (λ same is. named n 9 _ r same is (sym decimal_of.8)) (λ e8.
    by_number n 10 refusal.ParentOfOther r _ e8 (λ same is. named n 10 _ r same is (sym decimal_of.9)) (λ e9.
    by_number n 11 refusal.NotYet r _ e9 (λ same is. named n 11 _ r same is (sym decimal_of.10)) (λ e10.
    by_number n 12 refusal.NoMessage r None e10 (λ same is. named n 12 _ r same is (sym decimal_of.11)) (λ e11. none_is_not r e11)))))))))))

-- the text of a refusal behind its word
abbrev pub refused_text : Refusal → List ℕ
refused_text r = 32 ∷ refusal_text r

-- a reply that was read behind its word
abbrev pub IsBehind : List ℕ → List ℕ → Reply × List ℕ → Type 0
IsBehind word bytes x = word ++ bytes ≡ reply_text x.0 ++ x.1

refused_is : (bytes : List ℕ) (x : Reply × List ℕ) → refused_at bytes ≡ Some x → (r : Refusal) × (x.0 ≡ reply.Refused r) × (bytes ≡ refused_text r ++ x.1)
unfolding refused_at malformed_at refusal_text
refused_is bytes x e =
    from_step next_numbers bytes _ x e (λ n t0 e1.
    chosen (n.0 == 2) _ _ (Some x) e1
    (λ two e2.
    from_step next_numbers n.1 _ x e2 (λ m t1 e3.
    then_some (rule_of m.0) _ x e3 (λ rule given e4.
    let same : (reply.Refused (refusal.Malformed rule), m.1) ≡ x = some_is _ _ e4 in
    let is_two : then_number n.0 ≡ codes " 2" = ap then_number (eqb-true n.0 2 two) ∙ ap (λ t. 32 ∷ t) decimal_of.1 in
    let is_rule : then_number m.0 ≡ then_number (rule_number rule) = ap then_number (sym (rule_named m.0 rule given)) in
    let parts : bytes ≡ (then_number n.0 ++ then_number m.0) ++ m.1 = joined bytes (then_number n.0) (then_number m.0) n.1 m.1 t0.parts t1.parts in
    let texts : bytes ≡ (codes " 2" ++ then_number (rule_number rule)) ++ m.1 = subst (λ (t : List ℕ). bytes ≡ (codes " 2" ++ t) ++ m.1) is_rule (subst (λ (t : List ℕ). bytes ≡ (t ++ then_number m.0) ++ m.1) is_two parts) in
    (refusal.Malformed rule, sym (ap (λ (y : Reply × List ℕ). y.0) same), subst (λ (y : Reply × List ℕ). bytes ≡ (codes " 2" ++ then_number (rule_number rule)) ++ y.1) same texts))))
    (λ _ e2.
    then_some (refusal_of n.0) _ x e2 (λ why given e3.
    let same : (reply.Refused why, n.1) ≡ x = some_is _ _ e3 in
    let is_why : then_number n.0 ≡ refused_text why = ap (λ t. 32 ∷ t) (sym (refusal_named n.0 why given)) in
    let texts : bytes ≡ refused_text why ++ n.1 = subst (λ (t : List ℕ). bytes ≡ t ++ n.1) is_why t0.parts in
    (why, sym (ap (λ (y : Reply × List ℕ). y.0) same), subst (λ (y : Reply × List ℕ). bytes ≡ refused_text why ++ y.1) same texts))))

-- ---- replies, behind the words that they begin with

-- a reply of this text that can stand behind the client
abbrev pub TakesReply : ℕ → List ℕ → List ℕ → Reply × List ℕ → Type 0
TakesReply c word bytes x = Took (word ++ bytes) (reply_text x.0) x.1 (answers_client c x.0)

refuseds : (c : ℕ) (bytes : List ℕ) (x : Reply × List ℕ) → refused_at bytes ≡ Some x → TakesReply c (codes "refused") bytes x
unfolding reply_text answers_client
refuseds c bytes x e =
    let r = refused_is bytes x e in
    let text : reply_text x.0 ≡ codes "refused" ++ refused_text r.0 = ap reply_text r.1 in
    let good : answers_client c x.0 ≡ true = ap (answers_client c) r.1 in
    record {
      parts = ap (λ t. codes "refused" ++ t) r.2 ∙ ap (λ t. t ++ x.1) (sym text);
      fits = good;
    }

accepteds : (c : ℕ) (bytes : List ℕ) (x : Reply × List ℕ) → accepted_at bytes ≡ Some x → TakesReply c (codes "accepted") bytes x
unfolding accepted_at reply_text answers_client
accepteds c bytes x e =
    from_step next_counts bytes _ x e (λ k t0 e1.
    from_step next_counts k.1 _ x e1 (λ i t1 e2.
    let t = both {a = codes "accepted" ++ then_number k.0} (record { parts = ap (λ s. codes "accepted" ++ s) t0.parts; fits = t0.fits }) t1 in
    let made : Took (codes "accepted" ++ bytes) (reply_text (reply.Accepted k.0 i.0)) i.1 (answers_client c (reply.Accepted k.0 i.0)) = record { parts = t.parts; fits = t.fits } in
    finish reply_text (answers_client c) e2 made))

begans : (c : ℕ) (bytes : List ℕ) (x : Reply × List ℕ) → began_at bytes ≡ Some x → TakesReply c (codes "began") bytes x
unfolding began_at reply_text answers_client
begans c bytes x e =
    from_step next_numbers bytes _ x e (λ n t0 e1.
    let made : Took (codes "began" ++ bytes) (reply_text (reply.Began n.0)) n.1 (answers_client c (reply.Began n.0)) = record { parts = ap (λ s. codes "began" ++ s) t0.parts; fits = t0.fits } in
    finish reply_text (answers_client c) e1 made)

reclaimeds : (c : ℕ) → is_log_client c ≡ true → (bytes : List ℕ) → TakesReply c (codes "reclaimed") bytes (reply.Reclaimed (all_at (reclaim_at c) bytes).0, (all_at (reclaim_at c) bytes).1)
unfolding reply_text answers_client
reclaimeds c named bytes =
    let t = all_took (reclaims c named) bytes in
    record { parts = ap (λ s. codes "reclaimed" ++ s) t.parts; fits = t.fits }

-- bytes that begin with a word, and what was read behind it
behind : (c : ℕ) (word bytes : List ℕ) (x : Reply × List ℕ) → begins word bytes ≡ true → TakesReply c word (after word bytes) x → Took bytes (reply_text x.0) x.1 (answers_client c x.0)
behind c word bytes x there t = record { parts = begins_took word bytes there ∙ t.parts; fits = t.fits }

client_took : (c : ℕ) → is_log_client c ≡ true → (bytes : List ℕ) (x : Reply × List ℕ) → client_reply_at c bytes ≡ Some x → Took bytes (reply_text x.0) x.1 (answers_client c x.0)
unfolding client_reply_at reply_text answers_client
client_took c named bytes x e =
    chosen (begins (codes "accepted") bytes) _ _ (Some x) e (λ there e0. behind c (codes "accepted") bytes x there (accepteds c _ x e0)) (λ _ e0.
    chosen (begins (codes "began") bytes) _ _ (Some x) e0 (λ there e1. behind c (codes "began") bytes x there (begans c _ x e1)) (λ _ e1.
    chosen (begins (codes "reclaimed") bytes) _ _ (Some x) e1
    (λ there e2. finish reply_text (answers_client c) e2 (behind c (codes "reclaimed") bytes (reply.Reclaimed (all_at (reclaim_at c) (after (codes "reclaimed") bytes)).0, (all_at (reclaim_at c) (after (codes "reclaimed") bytes)).1) there (reclaimeds c named (after (codes "reclaimed") bytes)))) (λ _ e2.
    chosen (begins (codes "refused") bytes) _ _ (Some x) e2 (λ there e3. behind c (codes "refused") bytes x there (refuseds c _ x e3)) (λ _ e3.
    (one_of_words reply_text (answers_client c) client_replies (refl, refl, (refl, refl, (refl, refl, (refl, refl, (refl, refl, (refl, refl, tt))))))).law bytes x e3))))

ticks : Taking ticked_at reply_text (answers event.Begin)
unfolding ticked_at reply_text answers
ticks = record {
  law = λ bytes x e.
      from_step (words (codes "ticked")) bytes _ x e (λ word t0 e1.
      from_step next_numbers word.1 _ x e1 (λ n t1 e2.
      let made : Took bytes (reply_text (reply.Ticked n.0)) n.1 (answers event.Begin (reply.Ticked n.0)) = record { parts = (both t0 t1).parts; fits = t1.fits } in
      finish reply_text (answers event.Begin) e2 made));
}

-- a rectangle of natural numbers is one of a display
drawn_fits : (x y w h : ℕ) → is_drawn x y w h ≡ true → has_text_damage (drawn_on x y w h) ≡ true
drawn_fits x y w h fits =
    let t2 = and_parts (ltb 0 w && ltb 0 h && leb (x + w) 2048) (leb (y + h) 2048) fits in
    let t1 = and_parts (ltb 0 w && ltb 0 h) (leb (x + w) 2048) t2.0 in
    let t0 = and_parts (ltb 0 w) (ltb 0 h) t1.0 in
    and_from _ _ (and_from _ _ (and_from _ _ (and_from _ _ (and_from (leb 0 x) (leb 0 y) (le-leb 0 x (omega arith)) (le-leb 0 y (omega arith))) t0.0) t0.1) t1.1) t2.1

drawns : (bytes : List ℕ) (x : Reply × List ℕ) → drawn_at bytes ≡ Some x → Took (codes "drawn" ++ bytes) (reply_text x.0) x.1 (answers event.Draw x.0)
unfolding drawn_at reply_text answers
drawns bytes x e =
    from_step next_numbers bytes _ x e (λ a t0 e1.
    from_step next_numbers a.1 _ x e1 (λ b t1 e2.
    from_step next_numbers b.1 _ x e2 (λ c t2 e3.
    from_step next_numbers c.1 _ x e3 (λ d t3 e4.
    let test = tested_some (is_drawn a.0 b.0 c.0 d.0) _ x e4 in
    let t = both (both (both {a = codes "drawn" ++ then_number a.0} (record { parts = ap (λ s. codes "drawn" ++ s) t0.parts; fits = t0.fits }) t1) t2) t3 in
    let made : Took (codes "drawn" ++ bytes) (reply_text (reply.Drawn (drawn_on a.0 b.0 c.0 d.0))) d.1 (answers event.Draw (reply.Drawn (drawn_on a.0 b.0 c.0 d.0))) = record { parts = t.parts; fits = drawn_fits a.0 b.0 c.0 d.0 test.0 } in
    finish reply_text (answers event.Draw) (ap Some test.1) made))))

draws : Taking draw_reply_at reply_text (answers event.Draw)
unfolding draw_reply_at reply_text answers
draws = record {
  law = λ bytes x e.
      chosen (begins (codes "drawn") bytes) _ _ (Some x) e
      (λ there e1.
      let t = drawns (after (codes "drawn") bytes) x e1 in
      record { parts = begins_took (codes "drawn") bytes there ∙ t.parts; fits = t.fits })
      (λ _ e1. (one_of_words reply_text (answers event.Draw) draw_replies (refl, refl, (refl, refl, (refl, refl, (refl, refl, tt))))).law bytes x e1);
}

pub replies : (e : Event) → has_text_event e ≡ true → Taking (reply_at e) reply_text (answers e)
unfolding reply_at reply_text answers
replies (event.Client c) named = record {
  law = λ bytes x e.
      let t = client_took c named bytes x e in
      record { parts = t.parts; fits = and_from (is_log_client c) (answers_client c x.0) named t.fits };
}
replies event.Begin named = ticks
replies event.Draw named = draws
replies event.Done named = one_of_words reply_text (answers event.Done) done_replies (refl, refl, (refl, refl, tt))
replies event.Over named = one_of_words reply_text (answers event.Over) over_replies (refl, refl, tt)

-- ---- effects

pub effects_took : (bytes : List ℕ) → Took bytes (effects_text (effects_at bytes).0) (effects_at bytes).1 (has_text_effects (effects_at bytes).0)
unfolding effects_at effects_text
effects_took bytes =
    let t0 = all_took activateds bytes in
    let t1 = all_took destroyeds (all_at activated_at bytes).1 in
    let t2 = all_took returneds (all_at destroyed_at (all_at activated_at bytes).1).1 in
    let t3 = all_took feds (all_at returned_at (all_at destroyed_at (all_at activated_at bytes).1).1).1 in
    both (both (both t0 t1) t2) t3

-- ---- lines

pub entries : Taking entry_at entry_text has_text_entry
unfolding entry_at entry_text
entries = record {
  law = λ bytes x e.
      from_step events bytes _ x e (λ ev t0 e1.
      from_step (replies ev.0 t0.fits) ev.1 _ x e1 (λ re t1 e2.
      let t2 = effects_took re.1 in
      from_step (words (codes "\n")) (effects_at re.1).1 _ x e2 (λ line t3 e3.
      let t = both t1 (both t2 t3) in
      let front : bytes ≡ (event_word ev.0 ++ (reply_text re.0 ++ (effects_text (effects_at re.1).0 ++ codes "\n"))) ++ line.1 = joined bytes (event_word ev.0) (reply_text re.0 ++ (effects_text (effects_at re.1).0 ++ codes "\n")) ev.1 line.1 t0.parts t.parts in
      let whole : Took bytes (entry_text (record { event = ev.0; reply = re.0; effects = (effects_at re.1).0 })) line.1 (has_text_entry (record { event = ev.0; reply = re.0; effects = (effects_at re.1).0 })) = record {
        parts = front ∙ ap (λ s. s ++ line.1) (regroup (event_text ev.0) (reply_text re.0) (effects_text (effects_at re.1).0));
        fits = and_from (answers ev.0 re.0) (has_text_effects (effects_at re.1).0) t1.fits t2.fits;
      } in
      finish entry_text has_text_entry e3 whole)));
}
  where
    regroup : (a b c : List ℕ) → (a ++ 32 ∷ []) ++ (b ++ (c ++ (10 ∷ []))) ≡ a ++ (32 ∷ b) ++ c ++ (10 ∷ [])
    regroup a b c = simp append_assoc

pub helds : Taking held_at held_text has_text_return
unfolding held_at
helds = record {
  law = λ bytes x e.
      from_step (words (codes "held ")) bytes _ x e (λ word t0 e1.
      from_step returns word.1 _ x e1 (λ held t1 e2.
      from_step (words (codes "\n")) held.1 _ x e2 (λ line t2 e3.
      let t = both t0 (both t1 t2) in
      let made : Took bytes (held_text held.0) line.1 (has_text_return held.0) = record { parts = t.parts ∙ ap (λ s. s ++ line.1) (sym (regroup (decimal held.0.client) (decimal held.0.id) (decimal held.0.count))); fits = t1.fits } in
      finish held_text has_text_return e3 made)));
}
  where
    regroup : (a b c : List ℕ) → codes "held " ++ a ++ (46 ∷ (b ++ (120 ∷ c))) ++ (10 ∷ []) ≡ codes "held " ++ ((a ++ (46 ∷ (b ++ (120 ∷ c)))) ++ (10 ∷ []))
    regroup a b c = simp append_assoc

pub opens : Taking open_at open_text has_text_sub
unfolding open_at
opens = record {
  law = λ bytes x e.
      from_step (words (codes "open ")) bytes _ x e (λ word t0 e1.
      from_step subs word.1 _ x e1 (λ s t1 e2.
      from_step (words (codes "\n")) s.1 _ x e2 (λ line t2 e3.
      let t = both t0 (both t1 t2) in
      let made : Took bytes (open_text s.0) line.1 (has_text_sub s.0) = record { parts = t.parts ∙ ap (λ u. u ++ line.1) (sym (regroup (decimal s.0.client) (decimal s.0.ordinal))); fits = t1.fits } in
      finish open_text has_text_sub e3 made)));
}
  where
    regroup : (a b : List ℕ) → codes "open " ++ (a ++ (46 ∷ b)) ++ (10 ∷ []) ≡ codes "open " ++ ((a ++ (46 ∷ b)) ++ (10 ∷ []))
    regroup a b = simp append_assoc
