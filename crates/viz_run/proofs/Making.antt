-- What stands of three files that are written one after the other.
use Rattle.std.proofs.Common.{◌≡◌, ◌≢◌, ℕ, List, [], ◌∷◌, length, get_or, IsTrue, sym, subst, ◌∙◌, inl, inr, arith}
use Rattle.vz_codec.specs.Spelling.{file_bytes}
use Rattle.vz_frame.specs.declared.message.ClientFile.{ClientFile}
use Rattle.vz_outside.specs.Shelved.{Shelved, Name, Holds, IsCall, IfKnown, KeepsOthers}
use Rattle.vz_outside.proofs.Calls.{known_after, call_then_call}
use Rattle.vz_player.specs.Written.{AreWhole, AreBegun, HasFront}
use Rattle.viz_run.specs.Ends.{named_files}

-- a file that is written stays as it is where another one is written
held_still :
    (name other : Name) (bytes : List ℕ) (b c : Shelved) → name ≢ other → IsCall b c → KeepsOthers other b c → Holds bytes name b → Holds bytes name c
held_still name other bytes b c apart call kept holds told =
    let before : IsTrue b.is_known = subst IsTrue call.known told in
    kept.files before name apart ∙ holds before

-- the bytes of a name are as before where two others are written
same_still :
    (name one other : Name) (a b c : Shelved) → name ≢ one → name ≢ other → IsCall a b → KeepsOthers one a b → KeepsOthers other b c →
    IfKnown a (c.bytes name ≡ a.bytes name)
same_still name one other a b c first second call kept more told = more.files (known_after a b call told) name second ∙ kept.files told name first

-- a front part stands at most, also of what was as before
pub front_since :
    (name : Name) (bytes : List ℕ) (a b c : Shelved) → IsCall a b → IfKnown a (b.bytes name ≡ a.bytes name) → HasFront name bytes b c → HasFront name bytes a c
front_since name bytes a b c call same front told =
    elim (front (known_after a b call told)) [ inl still ↦ inl (still ∙ same told) | inr some ↦ inr some ]

-- three names of which no two are the same
pub record AreApart (m n o : Name) : Type 0 where
  pub second : m ≢ n
  pub third : m ≢ o
  pub last : n ≢ o

module _ (m n o : Name) (apart : AreApart m n o) (p q r : ClientFile) where
  -- the first was begun
  pub first_of_three :
      (a b : Shelved) → HasFront m (file_bytes p) a b → KeepsOthers m a b → AreBegun (named_files (m ∷ n ∷ o ∷ []) (p ∷ q ∷ r ∷ [])) a b
  first_of_three a b front kept =
      inr (front, (λ told. inl (kept.files told n (λ e. apart.second (sym e))), (λ told. inl (kept.files told o (λ e. apart.third (sym e))), tt)))

  -- the first is whole, and the second was begun
  pub second_of_three :
      (a b c : Shelved) → IsCall a b → Holds (file_bytes p) m b → KeepsOthers m a b →
      IsCall b c → HasFront n (file_bytes q) b c → KeepsOthers n b c → AreBegun (named_files (m ∷ n ∷ o ∷ []) (p ∷ q ∷ r ∷ [])) a c
  second_of_three a b c call holds kept then front more =
      inl (
        held_still m n (file_bytes p) b c apart.second then more holds,
        inr (
          front_since n (file_bytes q) a b c call (λ told. kept.files told n (λ e. apart.second (sym e))) front,
          (λ told. inl (same_still o m n a b c (λ e. apart.third (sym e)) (λ e. apart.last (sym e)) call kept more told), tt),
        ),
      )

  -- two are whole, and the third was begun
  pub third_of_three :
      (a b c d : Shelved) → IsCall a b → Holds (file_bytes p) m b → KeepsOthers m a b →
      IsCall b c → Holds (file_bytes q) n c → KeepsOthers n b c →
      IsCall c d → HasFront o (file_bytes r) c d → KeepsOthers o c d → AreBegun (named_files (m ∷ n ∷ o ∷ []) (p ∷ q ∷ r ∷ [])) a d
  third_of_three a b c d call holds kept then held more last front rest =
      inl (
        held_still m o (file_bytes p) c d apart.third last rest (held_still m n (file_bytes p) b c apart.second then more holds),
        inl (
          held_still n o (file_bytes q) c d apart.last last rest held,
          inr (
            front_since o (file_bytes r) a c d (call_then_call a b c call then)
                (same_still o m n a b c (λ e. apart.third (sym e)) (λ e. apart.last (sym e)) call kept more) front,
            tt,
          ),
        ),
      )

  -- all are whole
  pub all_three :
      (b c d : Shelved) → Holds (file_bytes p) m b → IsCall b c → Holds (file_bytes q) n c → KeepsOthers n b c →
      IsCall c d → Holds (file_bytes r) o d → KeepsOthers o c d → AreWhole (named_files (m ∷ n ∷ o ∷ []) (p ∷ q ∷ r ∷ [])) d
  all_three b c d holds then held more last end rest = (
    held_still m o (file_bytes p) c d apart.third last rest (held_still m n (file_bytes p) b c apart.second then more holds),
    (held_still n o (file_bytes q) c d apart.last last rest held, (end, tt)),
  )

-- three files by those that stand at their places
first_is :
    (files : List ClientFile) (f : ClientFile) → length files ≡ 3 → f ≡ get_or files 0 f →
    (q : ClientFile) × (r : ClientFile) × (files ≡ f ∷ q ∷ r ∷ [])
first_is (p ∷ q ∷ r ∷ []) f three is = (q, r, cc)
first_is [] f three is = absurd (omega arith)
first_is (p ∷ []) f three is = absurd (omega arith)
first_is (p ∷ q ∷ []) f three is = absurd (omega arith)
first_is (p ∷ q ∷ r ∷ s ∷ more) f three is = absurd (omega arith)

second_is :
    (files : List ClientFile) (f g : ClientFile) → length files ≡ 3 → f ≡ get_or files 0 f → g ≡ get_or files 1 g →
    (r : ClientFile) × (files ≡ f ∷ g ∷ r ∷ [])
second_is (p ∷ q ∷ r ∷ []) f g three is also = (r, cc)
second_is [] f g three is also = absurd (omega arith)
second_is (p ∷ []) f g three is also = absurd (omega arith)
second_is (p ∷ q ∷ []) f g three is also = absurd (omega arith)
second_is (p ∷ q ∷ r ∷ s ∷ more) f g three is also = absurd (omega arith)

third_is :
    (files : List ClientFile) (f g h : ClientFile) → length files ≡ 3 → f ≡ get_or files 0 f → g ≡ get_or files 1 g → h ≡ get_or files 2 h →
    files ≡ f ∷ g ∷ h ∷ []
third_is (p ∷ q ∷ r ∷ []) f g h three is also last = cc
third_is [] f g h three is also last = absurd (omega arith)
third_is (p ∷ []) f g h three is also last = absurd (omega arith)
third_is (p ∷ q ∷ []) f g h three is also last = absurd (omega arith)
third_is (p ∷ q ∷ r ∷ s ∷ more) f g h three is also last = absurd (omega arith)

module _ (m n o : Name) (files : List ClientFile) (apart : AreApart m n o) (three : length files ≡ 3) where
  pub first_begun :
      (f : ClientFile) (a b : Shelved) → f ≡ get_or files 0 f → HasFront m (file_bytes f) a b → KeepsOthers m a b →
      AreBegun (named_files (m ∷ n ∷ o ∷ []) files) a b
  first_begun f a b is front kept =
      let found = first_is files f three is in
      subst (λ fs. AreBegun (named_files (m ∷ n ∷ o ∷ []) fs) a b) (sym found.2) (first_of_three m n o apart f found.0 found.1 a b front kept)

  pub second_begun :
      (f g : ClientFile) (a b c : Shelved) → f ≡ get_or files 0 f → g ≡ get_or files 1 g →
      IsCall a b → Holds (file_bytes f) m b → KeepsOthers m a b → IsCall b c → HasFront n (file_bytes g) b c → KeepsOthers n b c →
      AreBegun (named_files (m ∷ n ∷ o ∷ []) files) a c
  second_begun f g a b c is also call holds kept then front more =
      let found = second_is files f g three is also in
      subst (λ fs. AreBegun (named_files (m ∷ n ∷ o ∷ []) fs) a c) (sym found.1)
      (second_of_three m n o apart f g found.0 a b c call holds kept then front more)

  pub third_begun :
      (f g h : ClientFile) (a b c d : Shelved) → f ≡ get_or files 0 f → g ≡ get_or files 1 g → h ≡ get_or files 2 h →
      IsCall a b → Holds (file_bytes f) m b → KeepsOthers m a b → IsCall b c → Holds (file_bytes g) n c → KeepsOthers n b c →
      IsCall c d → HasFront o (file_bytes h) c d → KeepsOthers o c d → AreBegun (named_files (m ∷ n ∷ o ∷ []) files) a d
  third_begun f g h a b c d is also end call holds kept then held more last front rest =
      subst (λ fs. AreBegun (named_files (m ∷ n ∷ o ∷ []) fs) a d) (sym (third_is files f g h three is also end))
      (third_of_three m n o apart f g h a b c d call holds kept then held more last front rest)

  pub all_whole :
      (f g h : ClientFile) (b c d : Shelved) → f ≡ get_or files 0 f → g ≡ get_or files 1 g → h ≡ get_or files 2 h →
      Holds (file_bytes f) m b → IsCall b c → Holds (file_bytes g) n c → KeepsOthers n b c →
      IsCall c d → Holds (file_bytes h) o d → KeepsOthers o c d → AreWhole (named_files (m ∷ n ∷ o ∷ []) files) d
  all_whole f g h b c d is also end holds then held more last stands rest =
      subst (λ fs. AreWhole (named_files (m ∷ n ∷ o ∷ []) fs) d) (sym (third_is files f g h three is also end))
      (all_three m n o apart f g h b c d holds then held more last stands rest)
