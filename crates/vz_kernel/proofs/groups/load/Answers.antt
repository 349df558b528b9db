use Rattle.std.proofs.Common.{◌≡◌, ◌+◌, ◌∙◌, length, ap, arith}
use Rattle.std.proofs.lemmas.Simd.{length-chunk}
use lib.Lanes.{chunk, number_l, digits_l}
use Rattle.vz_kernel.proofs.Sixteen.{read_none, read_more, spelled}
use Rattle.vz_kernel.proofs.groups.load.Goals as goal

pub returns : goal.returns
returns c =
    let xs = c.args.row.now in
    let at = c.args.at in
    let r =
    read_more xs at (at + 1) 15 _ _ (omega arith) (omega arith) c.word_at.ensures.value c.word_at.ensures.good c.word_at.ensures.bytes (
    read_more xs (at + 1) (at + 2) 14 _ _ (omega arith) (omega arith) c.word_at-2.ensures.value c.word_at-2.ensures.good c.word_at-2.ensures.bytes (
    read_more xs (at + 2) (at + 3) 13 _ _ (omega arith) (omega arith) c.word_at-3.ensures.value c.word_at-3.ensures.good c.word_at-3.ensures.bytes (
    read_more xs (at + 3) (at + 4) 12 _ _ (omega arith) (omega arith) c.word_at-4.ensures.value c.word_at-4.ensures.good c.word_at-4.ensures.bytes (
    read_more xs (at + 4) (at + 5) 11 _ _ (omega arith) (omega arith) c.word_at-5.ensures.value c.word_at-5.ensures.good c.word_at-5.ensures.bytes (
    read_more xs (at + 5) (at + 6) 10 _ _ (omega arith) (omega arith) c.word_at-6.ensures.value c.word_at-6.ensures.good c.word_at-6.ensures.bytes (
    read_more xs (at + 6) (at + 7) 9 _ _ (omega arith) (omega arith) c.word_at-7.ensures.value c.word_at-7.ensures.good c.word_at-7.ensures.bytes (
    read_more xs (at + 7) (at + 8) 8 _ _ (omega arith) (omega arith) c.word_at-8.ensures.value c.word_at-8.ensures.good c.word_at-8.ensures.bytes (
    read_more xs (at + 8) (at + 9) 7 _ _ (omega arith) (omega arith) c.word_at-9.ensures.value c.word_at-9.ensures.good c.word_at-9.ensures.bytes (
    read_more xs (at + 9) (at + 10) 6 _ _ (omega arith) (omega arith) c.word_at-10.ensures.value c.word_at-10.ensures.good c.word_at-10.ensures.bytes (
    read_more xs (at + 10) (at + 11) 5 _ _ (omega arith) (omega arith) c.word_at-11.ensures.value c.word_at-11.ensures.good c.word_at-11.ensures.bytes (
    read_more xs (at + 11) (at + 12) 4 _ _ (omega arith) (omega arith) c.word_at-12.ensures.value c.word_at-12.ensures.good c.word_at-12.ensures.bytes (
    read_more xs (at + 12) (at + 13) 3 _ _ (omega arith) (omega arith) c.word_at-13.ensures.value c.word_at-13.ensures.good c.word_at-13.ensures.bytes (
    read_more xs (at + 13) (at + 14) 2 _ _ (omega arith) (omega arith) c.word_at-14.ensures.value c.word_at-14.ensures.good c.word_at-14.ensures.bytes (
    read_more xs (at + 14) (at + 15) 1 _ _ (omega arith) (omega arith) c.word_at-15.ensures.value c.word_at-15.ensures.good c.word_at-15.ensures.bytes (
    read_more xs (at + 15) (at + 16) 0 _ _ (omega arith) (omega arith) c.word_at-16.ensures.value c.word_at-16.ensures.good c.word_at-16.ensures.bytes (
    read_none xs (at + 16))))))))))))))))) in
    let long : length (chunk at 16 xs) ≡ 16 = length-chunk at 16 xs c.requires in
    record { value = ap (λ ws. digits_l 256 64 (number_l 4294967296 ws)) r.value ∙ spelled 16 (chunk at 16 xs) long r.bytes; good = r.good }
