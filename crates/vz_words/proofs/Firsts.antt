-- What a command's first word and the others are.
use Rattle.std.proofs.Common.{◌≡◌, ℕ, List, [], ◌∷◌, ◌++◌, Bool, Option, Some, None, IsTrue, refl, ap, subst, ◌∙◌, if◌then◌else◌}
use Rattle.std.specs.Prelude.{codes}
use Rattle.std.specs.Fmt.{decimal}
use Rattle.vz_rules.specs.Command.{Word, Command, Run, Step, Check, Gen, Demo, Hit, Turns, flag_words, buffer_words, same_text, command_words, fits_command, IsCommand, IsNoCommand}

-- the kinds of commands
pub data Kind : Type 0 where
  Running : Kind
  Stepping : Kind
  Checking : Kind
  Making : Kind
  Showing : Kind
  Hitting : Kind
  Turning : Kind

-- the first word of a kind
abbrev pub word_of : Kind → Word
word_of Running = codes "run"
word_of Stepping = codes "step"
word_of Checking = codes "check"
word_of Making = codes "gen"
word_of Showing = codes "demo"
word_of Hitting = codes "hit"
word_of Turning = codes "turns"

-- the kind that a first word names
abbrev kind_named : Word → Option Kind
kind_named w =
    if same_text w (codes "run") then Some Running
    else (if same_text w (codes "step") then Some Stepping
    else (if same_text w (codes "check") then Some Checking
    else (if same_text w (codes "gen") then Some Making
    else (if same_text w (codes "demo") then Some Showing
    else (if same_text w (codes "hit") then Some Hitting
    else (if same_text w (codes "turns") then Some Turning
    else None))))))

named : (k : Kind) → kind_named (word_of k) ≡ Some k
named Running = refl
named Stepping = refl
named Checking = refl
named Making = refl
named Showing = refl
named Hitting = refl
named Turning = refl

-- the kind of a command, and its words behind the first
abbrev pub kind : Command → Kind
kind (Run paced buffers pipe w h ticks frames log files) = Running
kind (Step w h schedule frames log files) = Stepping
kind (Check w h frames log files) = Checking
kind (Gen n first second third) = Making
kind (Demo n) = Showing
kind (Hit w h schedule x y files) = Hitting
kind (Turns w h ticks files) = Turning

abbrev pub others : Command → List Word
others (Run paced buffers pipe w h ticks frames log files) =
    flag_words (codes "--paced") paced ++ buffer_words buffers ++ flag_words (codes "--pipe") pipe
    ++ decimal w ∷ decimal h ∷ decimal ticks ∷ frames ∷ log ∷ files
others (Step w h schedule frames log files) = decimal w ∷ decimal h ∷ schedule ∷ frames ∷ log ∷ files
others (Check w h frames log files) = decimal w ∷ decimal h ∷ frames ∷ log ∷ files
others (Gen n first second third) = decimal n ∷ first ∷ second ∷ third ∷ []
others (Demo n) = decimal n ∷ []
others (Hit w h schedule x y files) = decimal w ∷ decimal h ∷ schedule ∷ decimal x ∷ decimal y ∷ files
others (Turns w h ticks files) = decimal w ∷ decimal h ∷ decimal ticks ∷ files

pub words_are : (c : Command) → command_words c ≡ word_of (kind c) ∷ others c
unfolding command_words
words_are (Run paced buffers pipe w h ticks frames log files) = refl
words_are (Step w h schedule frames log files) = refl
words_are (Check w h frames log files) = refl
words_are (Gen n first second third) = refl
words_are (Demo n) = refl
words_are (Hit w h schedule x y files) = refl
words_are (Turns w h ticks files) = refl

-- what holds of each command of a kind
abbrev pub Each : (Command → Type 0) → Kind → Type 0
Each P Running = (paced : Bool) (buffers : Option ℕ) (pipe : Bool) (w h ticks : ℕ) (frames log : Word) (files : List Word)
    → P (Run paced buffers pipe w h ticks frames log files)
Each P Stepping = (w h : ℕ) (schedule frames log : Word) (files : List Word) → P (Step w h schedule frames log files)
Each P Checking = (w h : ℕ) (frames log : Word) (files : List Word) → P (Check w h frames log files)
Each P Making = (n : ℕ) (first second third : Word) → P (Gen n first second third)
Each P Showing = (n : ℕ) → P (Demo n)
Each P Hitting = (w h : ℕ) (schedule : Word) (x y : ℕ) (files : List Word) → P (Hit w h schedule x y files)
Each P Turning = (w h ticks : ℕ) (files : List Word) → P (Turns w h ticks files)

-- it holds of a command of this kind
pub of_kind : (P : Command → Type 0) (k : Kind) → Each P k → (c : Command) → k ≡ kind c → P c
of_kind P k each (Run paced buffers pipe w h ticks frames log files) e =
    let one : Each P Running = subst (λ j. Each P j) e each in one paced buffers pipe w h ticks frames log files
of_kind P k each (Step w h schedule frames log files) e =
    let one : Each P Stepping = subst (λ j. Each P j) e each in one w h schedule frames log files
of_kind P k each (Check w h frames log files) e = let one : Each P Checking = subst (λ j. Each P j) e each in one w h frames log files
of_kind P k each (Gen n first second third) e = let one : Each P Making = subst (λ j. Each P j) e each in one n first second third
of_kind P k each (Demo n) e = let one : Each P Showing = subst (λ j. Each P j) e each in one n
of_kind P k each (Hit w h schedule x y files) e = let one : Each P Hitting = subst (λ j. Each P j) e each in one w h schedule x y files
of_kind P k each (Turns w h ticks files) e = let one : Each P Turning = subst (λ j. Each P j) e each in one w h ticks files

-- the first word of a command tells its kind
pub same_kind : (j k : Kind) → word_of j ≡ word_of k → j ≡ k
same_kind j k e = let a = named j in let b = named k in let d = ap kind_named e in cc

-- words with the first word of a kind that are of no command of this kind are of none
pub no_command : (k : Kind) (ws : List Word) → Each (λ c. IsTrue (fits_command c) → ws ≡ others c → ⊥) k → IsNoCommand (word_of k ∷ ws)
unfolding IsCommand
no_command k ws each c is =
    let e : word_of k ∷ ws ≡ word_of (kind c) ∷ others c = is.1 ∙ words_are c in
    of_kind (λ c. IsTrue (fits_command c) → ws ≡ others c → ⊥) k each c (same_kind k (kind c) cc) is.0 cc

-- words without a first, and with a first that no kind has
pub no_words : IsNoCommand []
unfolding IsCommand
no_words c is = let e : [] ≡ word_of (kind c) ∷ others c = is.1 ∙ words_are c in cc

pub other_word : (t : Word) (ws : List Word) → ((k : Kind) → t ≡ word_of k → ⊥) → IsNoCommand (t ∷ ws)
unfolding IsCommand
other_word t ws other c is = other (kind c) (let e : t ∷ ws ≡ word_of (kind c) ∷ others c = is.1 ∙ words_are c in cc)

unnamed : (t : Word) → (t ≡ codes "run" → ⊥) → (t ≡ codes "step" → ⊥) → (t ≡ codes "check" → ⊥) → (t ≡ codes "gen" → ⊥) → (t ≡ codes "demo" → ⊥)
    → (t ≡ codes "hit" → ⊥) → (t ≡ codes "turns" → ⊥) → (k : Kind) → t ≡ word_of k → ⊥
unnamed t run step check gen demo hit turns Running = run
unnamed t run step check gen demo hit turns Stepping = step
unnamed t run step check gen demo hit turns Checking = check
unnamed t run step check gen demo hit turns Making = gen
unnamed t run step check gen demo hit turns Showing = demo
unnamed t run step check gen demo hit turns Hitting = hit
unnamed t run step check gen demo hit turns Turning = turns

-- a first word that is none of these
pub unknown_word : (t : Word) (ws : List Word) → (t ≡ codes "run" → ⊥) → (t ≡ codes "step" → ⊥) → (t ≡ codes "check" → ⊥) → (t ≡ codes "gen" → ⊥)
    → (t ≡ codes "demo" → ⊥) → (t ≡ codes "hit" → ⊥) → (t ≡ codes "turns" → ⊥) → IsNoCommand (t ∷ ws)
unknown_word t ws run step check gen demo hit turns = other_word t ws (unnamed t run step check gen demo hit turns)
