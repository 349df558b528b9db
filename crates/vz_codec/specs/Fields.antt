-- Kinds of fields: how values are read, which bytes spell them, and which values fit.
use Rattle.std.specs.Prelude.{ℕ, Bool, ◌&&◌, nat_le, Option, List, length}
use Rattle.std.specs.Int.{w8}
use Rattle.std.specs.List.{list_all}
use Rattle.vz_base.specs.declared.limits.TheConstants.{GREATEST_DEADLINE, MOST_DEPENDENCIES, MOST_REFERENCES}
use Rattle.vz_geom.specs.Rectangle.{Rectangle}
use Rattle.vz_frame.specs.declared.frame.Metadata.{Metadata}
use Rattle.vz_frame.specs.Fits.{is_number, fits_optional, fits_surface, fits_range}
use Rattle.vz_codec.specs.declared.shapes.Sides.{Sides}
use Rattle.vz_codec.specs.Reading.{Reading, many_at, optional_at, counted_at}
use Rattle.vz_codec.specs.Spelling.{optional_bytes, counted_bytes}

-- a kind of field: how it is read, the bytes of a value, and which values fit
pub record Kind (A : Type 0) : Type 0 where
  pub reading : Reading A
  pub spelling : A → List ℕ
  pub fitting : A → Bool

abbrev pub field : {A : Type 0} → Reading A → (A → List ℕ) → (A → Bool) → Kind A
field reading spelling fitting = record { reading = reading; spelling = spelling; fitting = fitting }

-- a flag, and a value if the flag is 1
abbrev pub optional : {A : Type 0} → Kind A → Kind (Option A)
optional k = field (optional_at k.reading) (optional_bytes k.spelling) (fits_optional k.fitting)

-- there are at most so many values, and all of them fit
abbrev pub fits_counted : {A : Type 0} → (A → Bool) → ℕ → List A → Bool
fits_counted fits limit xs = nat_le (length xs) limit && list_all fits xs

-- a count of one byte up to a limit, and that many values
abbrev pub counted : {A : Type 0} → ℕ → Kind A → Kind (List A)
counted limit k =
    field (counted_at w8 limit (many_at k.reading)) (counted_bytes k.spelling) (fits_counted k.fitting limit)

-- a frame's metadata fits: everything besides passes and resources
abbrev pub fits_metadata : Metadata → Bool
fits_metadata m =
    is_number m.token && is_number m.ack && fits_optional (λ d. nat_le d GREATEST_DEADLINE) m.deadline
    && fits_counted fits_surface MOST_DEPENDENCIES m.dependencies
    && fits_counted fits_range MOST_REFERENCES m.references

-- the rectangle of four numbers
abbrev pub rectangle : Sides → Rectangle
rectangle s = record { x = s.x; y = s.y; w = s.w; h = s.h }
