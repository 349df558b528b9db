-- What the words of `step`, `hit`, `check`, `turns` and `run` say of the display, of the names and of the buffers.
use Rattle.std.proofs.Common.{◌≡◌, ℕ, ◌+◌, ◌≤◌, ◌<◌, nat_lt, pos, Option, Some, None, List, [], ◌∷◌, length, Bool, true, false, not, ◌||◌, ◌&&◌, leb, IsTrue, sym, ap, ◌∙◌, arith}
use Rattle.std.proofs.{lemmas.Bool.and_parts, lemmas.Bool.leb-true, lemmas.Bool.ltb-true, lemmas.Int.ints, lemmas.List.length-map}
use Rattle.std.specs.{String.string_bytes, declared.string.String.String, List.list_any, List.list_all}
use Rattle.vz_base.specs.declared.limits.TheConstants.{MOST_FILES, MOST_BUFFERS, MOST_TICKS, GREATEST_DISPLAY_SIDE}
use Rattle.vz_frame.specs.{Fits.within, Frame.has_repeat}
use Rattle.vz_geom.specs.{Display.IsDisplaySize, Rectangle.has, Rectangle.sized}
use Rattle.viz_run.specs.Read.{texts}
use Rattle.vz_rules.specs.Command.{Word, Run, Step, Check, Hit, Turns, fits_command, buffers_fit, buffer_count, frames_fit, are_sides, are_files, is_name, are_names, same_text}

in_range : (low high n : ℕ) → within low high n ≡ true → (low ≤ n) × (n ≤ high)
in_range low high n is =
    let both = and_parts (leb low n) (leb n high) is in
    (leb-true low n both.0, leb-true n high both.1)

-- there are as many names as texts of them
pub some_named :
    {A : Type 0} (names : List (String A)) → (1 ≤ length (texts names)) × (length (texts names) ≤ MOST_FILES) → (1 ≤ length names) × (length names ≤ MOST_FILES)
some_named names fit = let long = length-map names string_bytes in (omega (arith, long, fit.0), omega (arith, long, fit.1))

same_text_self : (a : Word) → same_text a a ≡ true
same_text_self [] = grind arith
same_text_self (c ∷ cs) = let h = same_text_self cs in grind arith

repeats : (x t y z : Bool) → t ≡ true → not (x || ((t || y) || z)) ≡ true → ⊥
repeats true t y z is none = cc
repeats false true y z is none = cc
repeats false false y z is none = cc

module _ (w h : ℕ) (sides : IsTrue (are_sides w h)) where
  pub wide : (1 ≤ w) × (w ≤ 2048)
  wide = in_range 1 2048 w (and_parts (within 1 2048 w) (within 1 2048 h) sides).0

  pub high : (1 ≤ h) × (h ≤ 2048)
  high = in_range 1 2048 h (and_parts (within 1 2048 w) (within 1 2048 h) sides).1

  pub display_fits : IsDisplaySize (record { w = pos w; h = pos h })
  display_fits =
      let across = wide in
      let down = high in
      record { wide = omega (arith, ints); not_too_wide = omega (arith, ints); high = omega (arith, ints); not_too_high = omega (arith, ints) }

module _ (w h : ℕ) (s f l : Word) (files : List Word) (fits : IsTrue (fits_command (Step w h s f l files))) where
  fit_parts : (are_sides w h ≡ true) × (are_files files ≡ true) × (are_names (s ∷ f ∷ l ∷ files) ≡ true)
  unfolding fits_command
  fit_parts =
      let most = and_parts (are_sides w h && are_files files) (are_names (s ∷ f ∷ l ∷ files)) fits in
      let first = and_parts (are_sides w h) (are_files files) most.0 in
      (first.0, first.1, most.1)

  pub sides_fit : IsTrue (are_sides w h)
  sides_fit = fit_parts.0

  pub files_fit : (1 ≤ length files) × (length files ≤ MOST_FILES)
  files_fit = in_range 1 MOST_FILES (length files) fit_parts.1

  pub names_differ : f ≡ l → ⊥
  names_differ same =
      let named = and_parts (list_all is_name (s ∷ f ∷ l ∷ files)) (not (has_repeat same_text (s ∷ f ∷ l ∷ files))) fit_parts.2 in
      let again : same_text f l ≡ true = ap (same_text f) (sym same) ∙ same_text_self f in
      repeats (list_any (same_text s) (f ∷ l ∷ files)) (same_text f l) _ _ again named.1

module _ (w h : ℕ) (s : Word) (x y : ℕ) (files : List Word) (fits : IsTrue (fits_command (Hit w h s x y files))) where
  hit_parts : (are_sides w h ≡ true) × (nat_lt x w ≡ true) × (nat_lt y h ≡ true) × (are_files files ≡ true)
  unfolding fits_command
  hit_parts =
      let most = and_parts (are_sides w h && nat_lt x w && nat_lt y h && are_files files) (are_names (s ∷ files)) fits in
      let three = and_parts (are_sides w h && nat_lt x w && nat_lt y h) (are_files files) most.0 in
      let two = and_parts (are_sides w h && nat_lt x w) (nat_lt y h) three.0 in
      let one = and_parts (are_sides w h) (nat_lt x w) two.0 in
      (one.0, one.1, two.1, three.1)

  pub hit_sides_fit : IsTrue (are_sides w h)
  hit_sides_fit = hit_parts.0

  pub hit_files_fit : (1 ≤ length files) × (length files ≤ MOST_FILES)
  hit_files_fit = in_range 1 MOST_FILES (length files) hit_parts.3

  pub column_fits : x < w
  column_fits = ltb-true x w hit_parts.1

  pub row_fits : y < h
  row_fits = ltb-true y h hit_parts.2

  pub column_near : x < GREATEST_DISPLAY_SIDE
  column_near =
      let across = wide w h hit_parts.0 in
      let column = column_fits in omega (arith, column)

  pub row_near : y < GREATEST_DISPLAY_SIDE
  row_near =
      let down = high w h hit_parts.0 in
      let row = row_fits in omega (arith, row)

  -- the point is on the display
  pub point_fits : has (sized (record { w = pos w; h = pos h })) (record { x = pos x; y = pos y }) ≡ true
  point_fits =
      let column = column_fits in
      let row = row_fits in
      grind (arith, ints)

module _ (w h : ℕ) (f l : Word) (files : List Word) (fits : IsTrue (fits_command (Check w h f l files))) where
  judged_parts : (are_sides w h ≡ true) × (are_files files ≡ true)
  unfolding fits_command
  judged_parts =
      let most = and_parts (are_sides w h && are_files files) (are_names (f ∷ l ∷ files)) fits in
      and_parts (are_sides w h) (are_files files) most.0

  pub judged_sides_fit : IsTrue (are_sides w h)
  judged_sides_fit = judged_parts.0

  pub judged_files_fit : (1 ≤ length files) × (length files ≤ MOST_FILES)
  judged_files_fit = in_range 1 MOST_FILES (length files) judged_parts.1

module _ (w h ticks : ℕ) (files : List Word) (fits : IsTrue (fits_command (Turns w h ticks files))) where
  turns_parts : (are_sides w h ≡ true) × (are_files files ≡ true)
  unfolding fits_command
  turns_parts =
      let most = and_parts (are_sides w h && leb ticks MOST_TICKS && frames_fit w h (ticks + 1) && are_files files) (are_names files) fits in
      let four = and_parts (are_sides w h && leb ticks MOST_TICKS && frames_fit w h (ticks + 1)) (are_files files) most.0 in
      let three = and_parts (are_sides w h && leb ticks MOST_TICKS) (frames_fit w h (ticks + 1)) four.0 in
      ((and_parts (are_sides w h) (leb ticks MOST_TICKS) three.0).0, four.1)

  pub turns_sides_fit : IsTrue (are_sides w h)
  turns_sides_fit = turns_parts.0

  pub turns_files_fit : (1 ≤ length files) × (length files ≤ MOST_FILES)
  turns_files_fit = in_range 1 MOST_FILES (length files) turns_parts.1

first_repeats : (t y z : Bool) → t ≡ true → not ((t || y) || z) ≡ true → ⊥
first_repeats true y z is none = cc
first_repeats false y z is none = cc

-- the number of buffers is in its range, also where none is given
some_buffers : (buffers : Option ℕ) → buffers_fit buffers ≡ true → (1 ≤ buffer_count buffers) × (buffer_count buffers ≤ MOST_BUFFERS)
some_buffers None fits = (omega arith, omega arith)
some_buffers (Some n) fits = in_range 1 MOST_BUFFERS n fits

module _
    (paced : Bool) (buffers : Option ℕ) (pipe : Bool) (w h ticks : ℕ) (f l : Word) (files : List Word)
    (fits : IsTrue (fits_command (Run paced buffers pipe w h ticks f l files)))
  where
    run_parts : (buffers_fit buffers ≡ true) × (are_sides w h ≡ true) × (are_files files ≡ true) × (are_names (f ∷ l ∷ files) ≡ true) × (leb ticks MOST_TICKS ≡ true)
    unfolding fits_command
    run_parts =
        let most = and_parts (buffers_fit buffers && are_sides w h && leb ticks MOST_TICKS && frames_fit w h (ticks + 1) && are_files files) (are_names (f ∷ l ∷ files)) fits in
        let five = and_parts (buffers_fit buffers && are_sides w h && leb ticks MOST_TICKS && frames_fit w h (ticks + 1)) (are_files files) most.0 in
        let four = and_parts (buffers_fit buffers && are_sides w h && leb ticks MOST_TICKS) (frames_fit w h (ticks + 1)) five.0 in
        let three = and_parts (buffers_fit buffers && are_sides w h) (leb ticks MOST_TICKS) four.0 in
        let two = and_parts (buffers_fit buffers) (are_sides w h) three.0 in
        (two.0, two.1, five.1, most.1, three.1)

    pub run_buffers_fit : (1 ≤ buffer_count buffers) × (buffer_count buffers ≤ MOST_BUFFERS)
    run_buffers_fit = some_buffers buffers run_parts.0

    pub run_ticks_fit : ticks ≤ MOST_TICKS
    run_ticks_fit = leb-true ticks MOST_TICKS run_parts.4

    pub run_sides_fit : IsTrue (are_sides w h)
    run_sides_fit = run_parts.1

    pub run_files_fit : (1 ≤ length files) × (length files ≤ MOST_FILES)
    run_files_fit = in_range 1 MOST_FILES (length files) run_parts.2

    pub run_names_differ : f ≡ l → ⊥
    run_names_differ same =
        let named = and_parts (list_all is_name (f ∷ l ∷ files)) (not (has_repeat same_text (f ∷ l ∷ files))) run_parts.3 in
        let again : same_text f l ≡ true = ap (same_text f) (sym same) ∙ same_text_self f in
        first_repeats (same_text f l) _ _ again named.1
