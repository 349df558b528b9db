-- What stands as bytes are added to a file by calls one after the other.
use Rattle.std.proofs.Common.{◌≡◌, ℕ, ◌+◌, List, [], ◌++◌, length, take, Some, IsTrue, sym, ap, subst, ◌∙◌, arith, append_assoc}
use Rattle.std.proofs.{Math.Seq.take-append-add, lemmas.List.length-append, lemmas.List.take-append-le}
use Rattle.vz_outside.proofs.Calls.{Ran, ran_none, ran_then_ran, kept_same, kept_then_kept, append_nothing, append_then_append, known_after, with_more-with_more}
use Rattle.vz_outside.specs.Shelved.{Shelved, Name, Writing, KeepsOthers, Appends, AppendsFront, with_more}

-- these bytes were added to the file of a slot that is open for writing, by calls that went through
pub record HasAdded (bytes : List ℕ) (slot : ℕ) (old new : Shelved) : Type 0 where
  pub opened : old.mode slot ≡ Some Writing
  pub ran : Ran old new
  pub appended : Appends bytes (old.name slot) old new
  pub others : KeepsOthers (old.name slot) old new

-- none were added by no call
pub none_added : (slot : ℕ) (s : Shelved) → s.mode slot ≡ Some Writing → HasAdded [] slot s s
none_added slot s opened = record {
  opened = opened;
  ran = ran_none s;
  appended = append_nothing (s.name slot) s;
  others = kept_same (s.name slot) s;
}

module _ (slot : ℕ) (bytes : List ℕ) (a b c : Shelved) (before : HasAdded bytes slot a b) where
  -- the slot has its name still
  named : IsTrue a.is_known → b.name slot ≡ a.name slot
  named told = before.ran.call.names told slot Writing before.opened

  -- and is open still
  pub still_open : b.mode slot ≡ Some Writing
  still_open = before.ran.call.slots slot Writing before.opened

  -- the others are kept by a call more
  others_more : KeepsOthers (b.name slot) b c → KeepsOthers (a.name slot) a c
  others_more kept = record {
    files = λ told. (both told).files told;
    rests = λ told. (both told).rests told;
  }
    where
      both : IsTrue a.is_known → KeepsOthers (a.name slot) a c
      both told = kept_then_kept (a.name slot) a b c before.ran.call before.others (subst (λ (n : Name). KeepsOthers n b c) (named told) kept)

  -- more were added
  pub more_added :
      (more all : List ℕ) → Appends more (b.name slot) b c → KeepsOthers (b.name slot) b c → Ran b c → all ≡ bytes ++ more → HasAdded all slot a c
  more_added more all added kept ran is = record {
    opened = before.opened;
    ran = ran_then_ran a b c before.ran ran;
    appended = λ told. subst (λ l. c.bytes (a.name slot) ≡ with_more (a.bytes (a.name slot)) l) (sym is)
        (append_then_append bytes more (a.name slot) a b c before.ran.call before.appended (subst (λ (n : Name). Appends more n b c) (named told) added) told);
    others = others_more kept;
  }

  -- of more a front part was added
  pub front_added :
      (more rest all : List ℕ) → AppendsFront more (b.name slot) b c → all ≡ (bytes ++ more) ++ rest → AppendsFront all (a.name slot) a c
  front_added more rest all begun is told =
      let found = subst (λ (n : Name). AppendsFront more n b c) (named told) begun (known_after a b before.ran.call told) in
      let cut : take (length bytes + found.0) all ≡ bytes ++ take found.0 more =
      ap (take (length bytes + found.0)) (is ∙ append_assoc bytes more rest) ∙ (take-append-add bytes (more ++ rest) found.0 ∙ ap (λ l. bytes ++ l) (take-append-le found.0 more rest found.1)) in (
        length bytes + found.0,
        omega (arith, ap length is, length-append (bytes ++ more) rest, length-append bytes more, found.1),
        found.2
            ∙ (ap (λ o. with_more o (take found.0 more)) (before.appended told)
            ∙ (with_more-with_more (a.bytes (a.name slot)) bytes (take found.0 more) ∙ ap (with_more (a.bytes (a.name slot))) (sym cut))),
      )

  -- the others were kept
  pub others_kept : KeepsOthers (b.name slot) b c → KeepsOthers (a.name slot) a c
  others_kept kept = others_more kept
