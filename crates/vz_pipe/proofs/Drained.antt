-- What the receiver takes of what is left.
use Rattle.std.proofs.Common.{◌≡◌, true, true≢false, List, [], ◌∷◌, ◌++◌, length, sym, refl, ap, ◌∙◌, ⊎_elim, append_assoc, append-nil, arith, Option, Some, None}
use Rattle.std.specs.Prelude.{IsNone, IfSome, IfNone, ◌↔◌}
use mathlib.Core.List.{IsPrefix}
use Rattle.vz_pipe.specs.declared.parcel.Parcel.{Parcel}
use Rattle.vz_pipe.specs.declared.parcel.Parcel.TheVariants.{Frame, End}
use Rattle.vz_pipe.specs.declared.view.View.{View}
use Rattle.vz_pipe.specs.Rule.{frames, has_end, sending, taking, both, Gets, told, HandsOver}
use Rattle.vz_pipe.proofs.Parcels.{not_longer, frames_append, frames_mark, unmarked_more, marked}
use Rattle.vz_pipe.proofs.Sides.{got_frame}

none_there : {A : Type 0} (items : List A) → length items ≡ 0 → items ≡ []
none_there [] e = refl
none_there (x ∷ xs) e = absurd (omega arith)

module _ {T : Type 0} where
  -- what a call answers if these frames were taken before it, and these after it
  pub record Leaves (before after sent : List T) (r : Option T) : Type 0 where
    pub begins : IsPrefix before sent
    pub some : IfSome r (λ x. after ≡ before ++ x ∷ [])
    pub next : IsPrefix after sent
    pub none : IfNone r (after ≡ before)
    pub all : IsNone r ↔ (before ≡ sent)

  leaves_some : (before after sent rest : List T) (x : T) → after ≡ before ++ x ∷ [] → after ++ rest ≡ sent → Leaves before after sent (Some x)
  leaves_some before after sent rest x e p = let whole : before ++ x ∷ rest ≡ sent = sym (append_assoc before (x ∷ []) rest) ∙ ap (λ l. l ++ rest) (sym e) ∙ p in record {
    begins = (x ∷ rest, whole);
    some = e;
    next = (rest, p);
    none = tt;
    all = ((λ n. absurd (true≢false n)), λ s. absurd (not_longer before x rest (s ∙ sym whole)));
  }

  leaves_none : (before after sent : List T) → after ≡ before → before ≡ sent → Leaves before after sent None
  leaves_none before after sent e s = record {
    begins = ([], append-nil before ∙ s);
    some = tt;
    next = ([], append-nil after ∙ e ∙ s);
    none = e;
    all = ((λ _. s), λ _. refl);
  }

  pub taking_again : (r : View T) (got : List (Parcel T)) (had : List T) → r ≡ taking got had → r ≡ taking r.got r.had
  taking_again r got had e = e ∙ (λ i. taking (sym e i).got (sym e i).had)

  -- a frame came from the channel: v and u were joined to m, which became w, and r is the
  -- receiver's side again
  pub left_frame : (v u m w r : View T) (p : Parcel T) (x : T) (list before sent : List T) → m ≡ both v.put u.got v.gave u.had → p ≡ Frame x → Gets m p w → r ≡ taking w.got w.had → frames u.got ++ u.had ≡ before
      → frames v.put ++ (v.gave ++ list) ≡ sent → Leaves before (frames r.got ++ r.had) sent (Some x)
  left_frame v u m w r p x list before sent joined is g parted b s =
      let got : r.got ≡ m.got ++ Frame x ∷ [] = ap (λ (y : View T). y.got) parted ∙ ap (λ (y : View T). y.got) g.got ∙ ap (λ q. m.got ++ q ∷ []) is in
      let had : r.had ≡ [] = ap (λ (y : View T). y.had) parted ∙ ap (λ (y : View T). y.had) g.got ∙ g.none in
      let same_got : m.got ≡ u.got = ap (λ (y : View T). y.got) joined in
      let none : u.had ≡ [] = ap (λ (y : View T). y.had) (sym joined) ∙ g.none in
      let rest = g.in_order (ap (λ (y : View T). y.sends) joined) in
      let put : (m.got ++ Frame x ∷ []) ++ rest.0 ≡ v.put = ap (λ q. (m.got ++ q ∷ []) ++ rest.0) (sym is) ∙ rest.1 ∙ ap (λ (y : View T). y.put) joined in
      let f : List T = frames (m.got ++ Frame x ∷ []) in
      let all : f ++ frames rest.0 ≡ frames v.put = sym (frames_append (m.got ++ Frame x ∷ []) rest.0) ∙ ap frames put in
      let front : frames r.got ++ r.had ≡ f = (λ i. frames (got i) ++ had i) ∙ append-nil f in
      leaves_some before (frames r.got ++ r.had) sent (frames rest.0 ++ (v.gave ++ list)) x (got_frame u.got r.got u.had r.had x before b (got ∙ ap (λ l. l ++ Frame x ∷ []) same_got) none had)
      (ap (λ l. l ++ (frames rest.0 ++ (v.gave ++ list))) front ∙ sym (append_assoc f (frames rest.0) (v.gave ++ list)) ∙ ap (λ l. l ++ (v.gave ++ list)) all ∙ s)

  -- whether the mark was got is as before
  pub frame_keeps_mark : (v u m w r : View T) (p : Parcel T) (x : T) → m ≡ both v.put u.got v.gave u.had → p ≡ Frame x → Gets m p w → r ≡ taking w.got w.had → has_end r.got ≡ has_end u.got
  frame_keeps_mark v u m w r p x joined is g parted =
      let got : r.got ≡ m.got ++ Frame x ∷ [] = ap (λ (y : View T). y.got) parted ∙ ap (λ (y : View T). y.got) g.got ∙ ap (λ q. m.got ++ q ∷ []) is in
      ap has_end got ∙ unmarked_more m.got x g.unmarked ∙ sym g.unmarked ∙ ap (λ (y : View T). has_end y.got) joined

  -- the channel was empty: the next frame of the list was taken
  pub record IsDrained (v u m : View T) : Type 0 where
    pub got : frames m.got ≡ frames u.got
    pub had : m.had ≡ u.had
    pub put : m.put ≡ v.put
    pub gave : m.gave ≡ v.gave
    pub empty : m.put ≡ m.got
    pub agreed : m.gave ≡ m.had

  drained_by_mark : (v u m w : View T) (p : Parcel T) → m ≡ both v.put u.got v.gave u.had → p ≡ End → Gets m p w → IsDrained v u w
  drained_by_mark v u m w p joined is g = let s = ap (λ (y : View T). y.sends) joined in let is_w = g.got in record {
    got = ap (λ (y : View T). frames y.got) is_w ∙ ap (λ q. frames (m.got ++ q ∷ [])) is ∙ frames_mark m.got ∙ ap (λ (y : View T). frames y.got) joined;
    had = ap (λ (y : View T). y.had) is_w ∙ ap (λ (y : View T). y.had) joined;
    put = ap (λ (y : View T). y.put) is_w ∙ ap (λ (y : View T). y.put) joined;
    gave = ap (λ (y : View T). y.gave) is_w ∙ ap (λ (y : View T). y.gave) joined;
    empty = ap (λ (y : View T). y.put) is_w ∙ g.last s is ∙ ap (λ (y : View T). y.got) (sym is_w);
    agreed = ap (λ (y : View T). y.gave) is_w ∙ g.agreed s ∙ ap (λ (y : View T). y.had) (sym is_w);
  }

  drained_by_none : (v u m w : View T) (items : List (Parcel T)) → m ≡ both v.put u.got v.gave u.had → w ≡ m → length items ≡ 0 → told m items → IsDrained v u w
  drained_by_none v u m w items joined same none fact =
      let t = fact (ap (λ (y : View T). y.sends) joined) in
      let is_w = same in record {
        got = ap (λ (y : View T). frames y.got) (is_w ∙ joined);
        had = ap (λ (y : View T). y.had) (is_w ∙ joined);
        put = ap (λ (y : View T). y.put) (is_w ∙ joined);
        gave = ap (λ (y : View T). y.gave) (is_w ∙ joined);
        empty = ap (λ (y : View T). y.put) is_w ∙ t.0 ∙ ap (λ l. m.got ++ l) (none_there items none) ∙ append-nil m.got ∙ ap (λ (y : View T). y.got) (sym is_w);
        agreed = ap (λ (y : View T). y.gave) is_w ∙ t.1 ∙ ap (λ (y : View T). y.had) (sym is_w);
      }

  -- what was sent is what was taken, followed by what waits
  pub drained_sent : (v u m : View T) (list before sent : List T) → IsDrained v u m → frames u.got ++ u.had ≡ before → frames v.put ++ (v.gave ++ list) ≡ sent → before ++ list ≡ sent
  drained_sent v u m list before sent d b s =
      ap (λ l. l ++ list) (sym b) ∙ append_assoc (frames u.got) u.had list ∙ (λ i. sym d.got i ++ (sym d.had i ++ list)) ∙ (λ i. frames (sym d.empty i) ++ (sym d.agreed i ++ list)) ∙ (λ i. frames (d.put i) ++ (d.gave i ++ list)) ∙ s

  left_list : (v u m s r : View T) (list rest before sent : List T) (o : Option T) → IsDrained v u m → HandsOver m list o s r rest → frames u.got ++ u.had ≡ before → frames v.put ++ (v.gave ++ list) ≡ sent
      → Leaves before (frames r.got ++ r.had) sent o
  left_list v u m s r list rest before sent (Some x) d h b e =
      let had : r.had ≡ u.had ++ x ∷ [] = h.given.2 ∙ ap (λ l. l ++ x ∷ []) d.had in
      let got : frames r.got ≡ frames u.got = ap (λ (y : View T). frames y.got) h.receiver_is ∙ d.got in
      let after : frames r.got ++ r.had ≡ before ++ x ∷ [] = (λ i. got i ++ had i) ∙ sym (append_assoc (frames u.got) u.had (x ∷ [])) ∙ ap (λ l. l ++ x ∷ []) b in
      leaves_some before (frames r.got ++ r.had) sent rest x after
      (ap (λ l. l ++ rest) after ∙ append_assoc before (x ∷ []) rest ∙ ap (λ l. before ++ l) (sym h.given.0) ∙ drained_sent v u m list before sent d b e)
  left_list v u m s r list rest before sent None d h b e =
      let had : r.had ≡ u.had = h.given.3 ∙ d.had in
      let got : frames r.got ≡ frames u.got = ap (λ (y : View T). frames y.got) h.receiver_is ∙ d.got in
      leaves_none before (frames r.got ++ r.had) sent ((λ i. got i ++ had i) ∙ b) (sym (append-nil before) ∙ ap (λ l. before ++ l) (sym h.given.0) ∙ drained_sent v u m list before sent d b e)

  -- the mark came from the channel
  pub left_mark : (v u m w s r : View T) (p : Parcel T) (list rest before sent : List T) (o : Option T) → m ≡ both v.put u.got v.gave u.had → p ≡ End → Gets m p w → HandsOver w list o s r rest → frames u.got ++ u.had ≡ before
      → frames v.put ++ (v.gave ++ list) ≡ sent → Leaves before (frames r.got ++ r.had) sent o
  left_mark v u m w s r p list rest before sent o joined is g h b e = left_list v u w s r list rest before sent o (drained_by_mark v u m w p joined is g) h b e

  pub mark_stays : (m w s r : View T) (p : Parcel T) (list rest : List T) (o : Option T) → p ≡ End → Gets m p w → HandsOver w list o s r rest → has_end r.got ≡ true
  mark_stays m w s r p list rest o is g h = ap (λ (y : View T). has_end y.got) h.receiver_is ∙ ap (λ (y : View T). has_end y.got) g.got ∙ ap (λ q. has_end (m.got ++ q ∷ [])) is ∙ marked m.got

  -- the channel held nothing
  pub left_none : (v u m w s r : View T) (items : List (Parcel T)) (list rest before sent : List T) (o : Option T) → m ≡ both v.put u.got v.gave u.had → w ≡ m → length items ≡ 0 → told m items → HandsOver w list o s r rest
      → frames u.got ++ u.had ≡ before → frames v.put ++ (v.gave ++ list) ≡ sent → Leaves before (frames r.got ++ r.had) sent o
  left_none v u m w s r items list rest before sent o joined same none fact h b e = left_list v u w s r list rest before sent o (drained_by_none v u m w items joined same none fact) h b e

  -- what was sent is the same once the sides are cut again
  pub frame_keeps_sent : (v u m w s : View T) (p : Parcel T) (list sent : List T) → m ≡ both v.put u.got v.gave u.had → Gets m p w → s ≡ sending w.put w.gave → frames v.put ++ (v.gave ++ list) ≡ sent → frames s.put ++ (s.gave ++ list) ≡ sent
  frame_keeps_sent v u m w s p list sent joined g parted e =
      let view_of : View T → List T = λ y. frames y.put ++ (y.gave ++ list) in
      ap view_of parted ∙ ap view_of g.got ∙ ap view_of joined ∙ e

  list_keeps_sent : (v u m s r : View T) (list rest sent : List T) (o : Option T) → IsDrained v u m → HandsOver m list o s r rest → frames v.put ++ (v.gave ++ list) ≡ sent → frames s.put ++ (s.gave ++ rest) ≡ sent
  list_keeps_sent v u m s r list rest sent (Some x) d h e =
      (λ i. frames (h.sender_is i).put ++ (h.given.1 i ++ rest)) ∙ ap (λ l. frames m.put ++ l) (append_assoc m.gave (x ∷ []) rest) ∙ (λ i. frames (d.put i) ++ (d.gave i ++ sym h.given.0 i)) ∙ e
  list_keeps_sent v u m s r list rest sent None d h e =
      (λ i. frames (h.sender_is i).put ++ (h.given.2 i ++ (h.given.1 ∙ sym h.given.0) i)) ∙ (λ i. frames (d.put i) ++ (d.gave i ++ list)) ∙ e

  pub mark_keeps_sent : (v u m w s r : View T) (p : Parcel T) (list rest sent : List T) (o : Option T) → m ≡ both v.put u.got v.gave u.had → p ≡ End → Gets m p w → HandsOver w list o s r rest → frames v.put ++ (v.gave ++ list) ≡ sent
      → frames s.put ++ (s.gave ++ rest) ≡ sent
  mark_keeps_sent v u m w s r p list rest sent o joined is g h e = list_keeps_sent v u w s r list rest sent o (drained_by_mark v u m w p joined is g) h e

  pub none_keeps_sent : (v u m w s r : View T) (items : List (Parcel T)) (list rest sent : List T) (o : Option T) → m ≡ both v.put u.got v.gave u.had → w ≡ m → length items ≡ 0 → told m items → HandsOver w list o s r rest
      → frames v.put ++ (v.gave ++ list) ≡ sent → frames s.put ++ (s.gave ++ rest) ≡ sent
  none_keeps_sent v u m w s r items list rest sent o joined same none fact h e = list_keeps_sent v u w s r list rest sent o (drained_by_none v u m w items joined same none fact) h e

  -- no mark came before a frame
  pub not_ended : (v u m w : View T) (p : Parcel T) → m ≡ both v.put u.got v.gave u.had → Gets m p w → has_end u.got ≡ true → ⊥
  not_ended v u m w p joined g e = true≢false (sym e ∙ ap (λ (y : View T). has_end y.got) (sym joined) ∙ g.unmarked)

  -- if the channel was empty, what was sent is what was taken, followed by what waits
  pub none_sent : (v u m w : View T) (items : List (Parcel T)) (list before sent : List T) → m ≡ both v.put u.got v.gave u.had → w ≡ m → length items ≡ 0 → told m items → frames u.got ++ u.had ≡ before → frames v.put ++ (v.gave ++ list) ≡ sent
      → before ++ list ≡ sent
  none_sent v u m w items list before sent joined same none fact b e = drained_sent v u w list before sent (drained_by_none v u m w items joined same none fact) b e

  -- what was taken is a front part of what was sent
  pub taken_begins : (v u m : View T) (items : List (Parcel T)) (list before sent : List T) → m ≡ both v.put u.got v.gave u.had → told m items → frames u.got ++ u.had ≡ before → frames v.put ++ (v.gave ++ list) ≡ sent → IsPrefix before sent
  taken_begins v u m items list before sent joined fact b s =
      let t = fact (ap (λ (y : View T). y.sends) joined) in
      let put : v.put ≡ u.got ++ items = sym (ap (λ (y : View T). y.put) joined) ∙ t.0 ∙ ap (λ (y : View T). y.got ++ items) joined in
      let agreed : v.gave ≡ u.had = sym (ap (λ (y : View T). y.gave) joined) ∙ t.1 ∙ ap (λ (y : View T). y.had) joined in
      let had : m.had ≡ u.had = ap (λ (y : View T). y.had) joined in
      let there : List T = frames items ++ list in
      ⊎_elim (λ (e : m.had ≡ []). let none : u.had ≡ [] = sym had ∙ e in let gave : v.gave ≡ [] = agreed ∙ none in (
        there,
        ap (λ l. l ++ there) (sym b) ∙ ap (λ l. (frames u.got ++ l) ++ there) none ∙ ap (λ l. l ++ there) (append-nil (frames u.got)) ∙ sym (append_assoc (frames u.got) (frames items) list)
            ∙ ap (λ l. l ++ list) (sym (frames_append u.got items)) ∙ ap (λ l. frames l ++ list) (sym put) ∙ ap (λ l. frames v.put ++ (l ++ list)) (sym gave) ∙ s,
      ))
      (λ (e : items ≡ []). let same : v.put ≡ u.got = put ∙ ap (λ l. u.got ++ l) e ∙ append-nil u.got in
      (list, ap (λ l. l ++ list) (sym b) ∙ append_assoc (frames u.got) u.had list ∙ (λ i. frames (sym same i) ++ (sym agreed i ++ list)) ∙ s)) t.2

  -- the sides were cut, and know what they knew
  pub parted_taken : (v u m r : View T) (before : List T) → m ≡ both v.put u.got v.gave u.had → r ≡ taking m.got m.had → frames u.got ++ u.had ≡ before → frames r.got ++ r.had ≡ before
  parted_taken v u m r before joined parted b = let view_of : View T → List T = λ y. frames y.got ++ y.had in ap view_of parted ∙ ap view_of joined ∙ b

  pub parted_sent : (v u m s : View T) (list sent : List T) → m ≡ both v.put u.got v.gave u.had → s ≡ sending m.put m.gave → frames v.put ++ (v.gave ++ list) ≡ sent → frames s.put ++ (s.gave ++ list) ≡ sent
  parted_sent v u m s list sent joined parted e = let view_of : View T → List T = λ y. frames y.put ++ (y.gave ++ list) in ap view_of parted ∙ ap view_of joined ∙ e
