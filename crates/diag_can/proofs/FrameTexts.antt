-- The text of a frame, whose bytes are counted and decoded where they are wanted.
use Rattle.std.proofs.Common.{◌≡◌, ℕ, ◌-◌, ◌/◌, ◌*◌, ◌%◌, ◌≤◌, ◌==◌, nat_lt, true, false, List, length, take, drop, Some, Ok, refl, ap, ◌∙◌, arith, length-drop}
use Rattle.std.specs.List.{AllPass, prefix_len}
use Rattle.std.proofs.lemmas.Bool.Decides.{nat_tests}
use Rattle.std.proofs.lemmas.List.{length-take-le}
use Rattle.std.proofs.lemmas.List.Sums.{prefix_len-le-length}
use Rattle.hex.specs.Hex.{is_hex_digit, decode_of}
use Rattle.hex.proofs.HexLemmas.{decode_of-digits, decode_of-ok}
use Rattle.diag_can.specs.FrameText.{EndsInBytes, bytes_or_none, last_bytes, last_digits}
use Rattle.diag_can.specs.Line.{fd_data, frame_data, frame_of, is_end, is_fd_length, is_well_ended}
use Rattle.diag_can.proofs.Pairs.{is_ok-value}
use Rattle.diag_can.proofs.Runs.{run-passes}
use Rattle.diag_can.proofs.UsualLines.{is_ok-from}

-- as many bytes are written as are counted
pub count_is : {text : List ℕ} {count : ℕ} → EndsInBytes text count → length (last_bytes text count) ≡ count
count_is {text} {count} e =
    let digits = last_digits text count in
    let value = is_ok-value (decode_of digits) e.hex in
    let size = (decode_of-ok digits value.0 value.1).2 in
    let bytes : last_bytes text count ≡ value.0 = ap bytes_or_none value.1 in
    let inside = e.inside in
    omega (arith, size, ap length bytes, length-drop (length text - 2 * count) text)

-- ---- the digits at the front of a text

module _ (rest : List ℕ) (count : ℕ) (run : count ≡ prefix_len is_hex_digit rest) (few : count ≤ 128) (even : count % 2 ≡ 0) where
  abbrev text : List ℕ
  text = take count rest

  size : length text ≡ count
  size = length-take-le count rest (omega (arith, run, prefix_len-le-length is_hex_digit rest))

  all : AllPass is_hex_digit text
  all = rw run (run-passes is_hex_digit rest)

  value : (bytes : List ℕ) × (decode_of text ≡ Ok bytes)
  value = decode_of-digits text (ap (λ (n : ℕ). n % 2) size ∙ even) all

  same : last_digits text (count / 2) ≡ text
  same = let at : length text - 2 * (count / 2) ≡ 0 = omega (arith, size) in ap (λ (n : ℕ). drop n text) at

  pub front_ends : EndsInBytes text (count / 2)
  front_ends = record { few = omega arith; inside = omega (arith, size); hex = rw same (is_ok-from text value.0 value.1) }

  -- they write these bytes
  bytes : last_bytes text (count / 2) ≡ value.0
  bytes = ap bytes_or_none (ap decode_of same ∙ value.1)

  whole : (count % 2 == 1) ≡ false
  whole = grind (arith, nat_tests)

  -- as the data of a classic frame
  pub classic_frame-is : (id : ℕ) → count ≤ 16 → is_well_ended count (drop count rest) ≡ true
      → frame_of id (frame_data rest) ≡ Ok (Some (record { id = id; bytes = last_bytes text (count / 2) }))
  classic_frame-is id short ends =
      let below : nat_lt 16 count ≡ false = grind (arith, nat_tests) in
      let w = whole in
      let v = value.1 in
      let b = bytes in
      rw (← run, below, w, ends, v, b) refl

  -- and of one of CAN FD
  pub fd_frame-is : (id : ℕ) → is_fd_length (count / 2) ≡ true → is_end (drop count rest) ≡ true
      → frame_of id (fd_data rest) ≡ Ok (Some (record { id = id; bytes = last_bytes text (count / 2) }))
  fd_frame-is id length_is ends =
      let below : nat_lt 128 count ≡ false = grind (arith, nat_tests) in
      let w = whole in
      let v = value.1 in
      let b = bytes in
      rw (← run, below, w, length_is, ends, v, b) refl
