-- The laws of messages and files.
use Rattle.std.proofs.Common.{◌≡◌, ℕ, ◌*◌, Bool, true, not, ◌&&◌, ◌==◌, leb}
use Rattle.std.proofs.Common.{◌++◌, length, refl, sym, ap, append_assoc, arith}
use Rattle.std.specs.List.{list_all}
use Rattle.std.specs.Int.{w16, w32}
use Rattle.std.proofs.lemmas.Bool.{and_parts, eqb-true}
use Rattle.std.proofs.Math.Bool.{and_assoc}
use Rattle.vz_ids.specs.declared.FrameSinkId.{FrameSinkId}
use Rattle.vz_frame.specs.declared.message.Message.{Message}
use Rattle.vz_frame.specs.declared.message.Message.TheVariants as message
use Rattle.vz_frame.specs.Fits.{within, fits_sink, fits_colour, fits_block, fits_message, fits_file}
use Rattle.vz_codec.specs.declared.fault.FileRule.TheVariants as fault
use Rattle.vz_codec.specs.Spelling.{u16_bytes, u32_bytes, sink_bytes, block_bytes, message_bytes}
use Rattle.vz_codec.specs.Spelling.{magic, file_bytes}
use Rattle.vz_codec.specs.Reading.{bare}
use Rattle.vz_codec.specs.Fields.{field}
use Rattle.vz_codec.specs.Reading.{block_at}
use Rattle.vz_codec.specs.Reading.{messages_at, message_at, magic_at, version_at, header_at, file_at}
use Rattle.vz_codec.proofs.Lawful.{IsField, refit, thens, ◌⊠◌, checks, makes, remade, records}
use Rattle.vz_codec.proofs.Many.{manys, counts}
use Rattle.vz_codec.proofs.Tagged.{◌⨾◌, IsTold, turned, lone, tagged_field}
use Rattle.vz_codec.proofs.Simple.{from_zero, numbers32, ranged, limited16, limited32, sinks, locals, colours}
use Rattle.vz_codec.proofs.Framed.{ids, frames}

-- ---- blocks

sized : (a b c d : Bool) → (a && b && c && d) ≡ (a && b && (c && d))
sized a b c d = and_assoc (a && b) c d

blocks : IsField (field block_at block_bytes fits_block) 4
unfolding block_at block_bytes
blocks =
    let side = limited16 1 256 (omega arith) in
    records (thens (side ⊠ side) (λ s. manys colours (s.0 * s.1))) (λ p. record { w = p.0.0; h = p.0.1; pixels = p.1 })
    (λ b. ((b.w, b.h), b.pixels)) block_bytes fits_block (λ _. refl) (λ _. refl) (λ _. refl)
    (λ b. sized (within 1 256 b.w) (within 1 256 b.h) (length b.pixels == b.w * b.h) (list_all fits_colour b.pixels))

-- ---- messages

message_told : (format : ℕ) (m : Message)
    → IsTold (message_bytes format) (fits_message format) 1 (messages_at format) (bare message.Close) m
unfolding message_bytes fits_message
message_told format (message.Upload id block) =
    (refl, refl, remade (ids ⊠ blocks) (λ p. message.Upload p.0 p.1) (id, block))
message_told format (message.Submit frame local) =
    (refl, refl, remade (locals ⊠ frames format) (λ p. message.Submit p.1 p.0) (local, frame))
message_told format (message.DidNotProduce n) = (refl, refl, remade numbers32 message.DidNotProduce n)
message_told format message.Reclaim = (refl, refl, λ rest h. refl)
message_told format (message.SetRoot local) = (refl, refl, remade locals message.SetRoot local)
message_told format (message.Hierarchy parent child) =
    (refl, refl, remade (sinks ⊠ sinks) (λ p. message.Hierarchy p.0 p.1) (parent, child))
message_told format message.Await = (refl, refl, λ rest h. refl)
message_told format message.Close = (refl, refl, λ rest h. refl)

messages : (format : ℕ) → IsField (field (message_at format) (message_bytes format) (fits_message format)) 1
unfolding message_at message_bytes fits_message
messages format =
    let spell = message_bytes format in
    let fit = fits_message format in
    let parts =
    turned (ids ⊠ blocks) spell fit 1 (λ p. message.Upload p.0 p.1) (λ _ h. (refl, h))
    ⨾ turned (locals ⊠ frames format) spell fit 2 (λ p. message.Submit p.1 p.0) (λ _ h. (refl, h))
    ⨾ turned numbers32 spell fit 3 message.DidNotProduce (λ _ h. (refl, h))
    ⨾ lone spell fit 4 message.Reclaim refl refl
    ⨾ turned locals spell fit 5 message.SetRoot (λ _ h. (refl, h))
    ⨾ turned (sinks ⊠ sinks) spell fit 6 (λ p. message.Hierarchy p.0 p.1) (λ _ h. (refl, h))
    ⨾ lone spell fit 7 message.Await refl refl
    ⨾ lone spell fit 8 message.Close refl refl in
    tagged_field spell fit 1 (messages_at format) (bare message.Close) (omega arith) parts (message_told format)

-- ---- files

magics : IsField (field magic_at (λ _. magic) (λ _. true)) 4
unfolding magic_at u32_bytes
magics =
    let number = checks numbers32 (omega arith) fault.Magic (λ e. cc) (λ n. n == 0x435a4956) in
    makes number (λ _. tt) (λ _. magic) (λ _. true)
    (λ n _ h. (ap u32_bytes (sym (eqb-true n 0x435a4956 (and_parts _ _ h).1)), refl))
    (λ _ _. (0x435a4956, refl, refl, refl))

versions : IsField (field version_at u16_bytes (within 1 2)) 2
unfolding u16_bytes
versions = ranged fault.Version (λ e. cc) w16 (omega arith) 1 2 (omega arith)

abbrev not_zero : FrameSinkId → Bool
not_zero s = not ((s.client_id == 0) && (s.sink_id == 0))

headers : IsField (field header_at sink_bytes (λ s. fits_sink s && not_zero s)) 8
unfolding header_at
headers = checks sinks (omega arith) fault.Limit (λ e. cc) not_zero

-- the tests of a file in groups
grouped : (a b c d e : Bool) → (a && b && c && d && e) ≡ (a && (b && c) && (d && e))
grouped a b c d e = simp and_assoc

pub files : IsField (field file_at file_bytes fits_file) 18
unfolding file_at file_bytes fits_file u32_bytes
files =
    let few : ℕ → Bool = λ n. leb n 4096 in
    let count = refit (limited32 0 4096 (omega arith)) few (from_zero 4096) in
    let list = λ (front : (Unit {0} × ℕ) × FrameSinkId). counts w32 4096 few _ _ count (manys (messages front.0.1)) in
    records (thens (magics ⊠ versions ⊠ headers) list) (λ p. record { format = p.0.0.1; sink = p.0.1; messages = p.1 })
    (λ f. (((tt, f.format), f.sink), f.messages)) file_bytes fits_file (λ _. refl) (λ _. refl)
    (λ f. append_assoc (magic ++ u16_bytes f.format ++ sink_bytes f.sink) (u32_bytes (length f.messages)) _)
    (λ f. grouped (within 1 2 f.format) (fits_sink f.sink) (not_zero f.sink) (few (length f.messages))
    (list_all (fits_message f.format) f.messages))
