-- What the two sides know after a step.
use Rattle.std.proofs.Common.{◌≡◌, true, false, List, [], ◌∷◌, ◌++◌, sym, ap, ◌∙◌, append_assoc, append-nil}
use Rattle.vz_pipe.specs.declared.parcel.Parcel.{Parcel}
use Rattle.vz_pipe.specs.declared.parcel.Parcel.TheVariants.{Frame, End}
use Rattle.vz_pipe.specs.declared.view.View.{View}
use Rattle.vz_pipe.specs.Rule.{frames, has_end, note, sending, puts}
use Rattle.vz_pipe.proofs.Parcels.{frames_append, frames_mark, unmarked_more, marked}

module _ {T : Type 0} where
  -- the sender's side stays the sender's
  pub puts_sending : (v w : View T) (p : Parcel T) (gave : List T) → v ≡ sending v.put gave → puts v p w → w ≡ sending w.put gave
  puts_sending v w p gave k h = let put : v.put ++ p ∷ [] ≡ w.put = sym (ap (λ (u : View T). u.put) h) in h ∙ (λ i. note (k i).sends (k i).takes (put i) (k i).got (k i).gave (k i).had)

  -- a frame goes from the front of the list to the end of what was put
  pub record PutsFront (w : View T) (rest all : List T) : Type 0 where
    pub knows : w ≡ sending w.put []
    pub unmarked : has_end w.put ≡ false
    pub all_is : frames w.put ++ rest ≡ all

  pub puts_front : (v w : View T) (x : T) (list rest all : List T) → v ≡ sending v.put [] → has_end v.put ≡ false → puts v (Frame x) w → list ≡ x ∷ rest → frames v.put ++ list ≡ all → PutsFront w rest all
  puts_front v w x list rest all k m h e a = record {
    knows = puts_sending v w (Frame x) [] k h;
    unmarked = ap (λ (u : View T). has_end u.put) h ∙ unmarked_more v.put x m;
    all_is = ap (λ (u : View T). frames u.put ++ rest) h ∙ ap (λ l. l ++ rest) (frames_append v.put (Frame x ∷ [])) ∙ append_assoc (frames v.put) (x ∷ []) rest ∙ ap (λ l. frames v.put ++ l) (sym e) ∙ a;
  }

  -- the mark went into the channel, and changed no frame
  pub puts_mark : (v w : View T) → puts v End w → (frames w.put ≡ frames v.put) × (has_end w.put ≡ true)
  puts_mark v w h = (ap (λ (u : View T). frames u.put) h ∙ frames_mark v.put, ap (λ (u : View T). has_end u.put) h ∙ marked v.put)

  -- a frame came from the channel
  pub got_frame : (got more : List (Parcel T)) (had still : List T) (x : T) (taken : List T) → frames got ++ had ≡ taken → more ≡ got ++ Frame x ∷ [] → had ≡ [] → still ≡ [] → frames more ++ still ≡ taken ++ x ∷ []
  got_frame got more had still x taken t e a b = (λ i. frames (e i) ++ b i) ∙ append-nil (frames (got ++ Frame x ∷ [])) ∙ frames_append got (Frame x ∷ []) ∙ ap (λ l. l ++ x ∷ []) (sym (append-nil (frames got)) ∙ (λ i. frames got ++ sym a i) ∙ t)

  -- the mark came from the channel
  pub got_mark : (got more : List (Parcel T)) (had still taken : List T) → frames got ++ had ≡ taken → more ≡ got ++ End ∷ [] → had ≡ [] → still ≡ [] → frames more ++ still ≡ taken
  got_mark got more had still taken t e a b = (λ i. frames (e i) ++ b i) ∙ append-nil (frames (got ++ End ∷ [])) ∙ frames_mark got ∙ sym (append-nil (frames got)) ∙ (λ i. frames got ++ sym a i) ∙ t

  pub frame_leaves_unmarked : (got more : List (Parcel T)) (x : T) → more ≡ got ++ Frame x ∷ [] → has_end got ≡ false → has_end more ≡ false
  frame_leaves_unmarked got more x e m = ap has_end e ∙ unmarked_more got x m

  pub mark_ends : (got more : List (Parcel T)) → more ≡ got ++ End ∷ [] → has_end more ≡ true
  mark_ends got more e = ap has_end e ∙ marked got
