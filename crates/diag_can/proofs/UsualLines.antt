-- Lines of the usual form.
use Rattle.std.proofs.Common.{◌≡◌, ℕ, ◌+◌, ◌-◌, ◌/◌, ◌*◌, ◌%◌, ◌<◌, ◌≤◌, ◌==◌, ◌&&◌, nat_le, nat_lt, Bool, true, false, cond, List, [], ◌∷◌, length, take, drop, get_or, Option, Some, Ok, Err, refl, sym, ap, ◌∙◌, arith, add-one, length-drop, drop-drop, drop-cons}
use Rattle.std.specs.Prelude.{IsOk}
use Rattle.std.specs.List.{AllPass, prefix_len}
use Rattle.std.proofs.lemmas.Bool.{eq-eqb, ne_eqb, not-true, not-false, eqb-true}
use Rattle.std.proofs.lemmas.Bool.Decides.{nat_tests}
use Rattle.std.proofs.lemmas.List.{get_or-drop, take_all, drop_all, length-take-le}
use Rattle.std.proofs.lemmas.List.Sums.{prefix_len_is}
use Rattle.std.proofs.lemmas.List.Elements.{All-from_get_or}
use Rattle.hex.specs.Hex.{is_hex_digit, decode_of}
use Rattle.hex.proofs.HexLemmas.{decode_of-digits}
use Rattle.diag_can.specs.Stamp.{is_digit, is_space, is_no_space, behind, behind_run, digits_of, moment_of}
use Rattle.diag_can.specs.declared.bus_line.BusLine.TheVariants.{Stamped}
use Rattle.diag_can.specs.Line.{line_says, stamped, stamped_frame, is_time, data_frame, frame_data, frame_of, text_frame, id_of, is_among, wide_frame, wide_id_of}
use Rattle.diag_can.specs.BusLine.{bus_line}
use Rattle.diag_can.specs.Lanes.{IsRunIn}
use Rattle.diag_can.specs.Log.{without_return}
use Rattle.diag_can.specs.FrameText.{EndsInBytes, bytes_or_none, last_bytes, last_digits}
use Rattle.diag_can.specs.Usual.{IsFramed, IsUsual, usual_frame}
use Rattle.diag_can.specs.MomentText.{usual_moment}
use Rattle.diag_can.specs.declared.bus_line.BusLine.{BusLine}
use Rattle.diag_can.specs.declared.fault.LineFault.TheVariants.{BadLine}
use Rattle.diag_can.specs.declared.frame.Frame.{Frame}
use Rattle.diag_can.specs.declared.frame.KnownId.{KnownId}

-- ---- parts of a line, by the bytes that stand there

pub behind_at : (byte : ℕ) (xs : List ℕ) (i : ℕ) → i < length xs → get_or xs i 0 ≡ byte → behind byte (drop i xs) ≡ Some (drop (i + 1) xs)
behind_at byte xs i lt is =
    let here = drop-cons xs i 0 lt in
    let same : (get_or xs i 0 == byte) ≡ true = eq-eqb _ _ is in
    rw (here, same) (ap (λ (k : ℕ). Some (drop k xs)) (sym (add-one i)))

pub run_at : (p : ℕ → Bool) (xs : List ℕ) (i n : ℕ) → i + n < length xs → ((k : ℕ) → k < n → p (get_or xs (i + k) 0) ≡ true)
    → p (get_or xs (i + n) 0) ≡ false → prefix_len p (drop i xs) ≡ n
run_at p xs i n lt all stop =
    prefix_len_is p (drop i xs) n 0 (omega (arith, length-drop i xs)) (λ k below. ap p (get_or-drop i xs k 0) ∙ all k below)
    (λ _. ap p (get_or-drop i xs n 0) ∙ stop)

digits_at : (least most n : ℕ) (xs : List ℕ) (i : ℕ) → (nat_le least n && nat_le n most) ≡ true → prefix_len is_digit (drop i xs) ≡ n
    → digits_of least most (drop i xs) ≡ Some (take n (drop i xs), drop (i + n) xs)
digits_at least most n xs i within run = rw (run, within) (ap (λ (rest : List ℕ). Some (take n (drop i xs), rest)) (drop-drop n i xs))

skip_at : (p : ℕ → Bool) (n : ℕ) (xs : List ℕ) (i : ℕ) → 0 < n → prefix_len p (drop i xs) ≡ n → behind_run p (drop i xs) ≡ Some (drop (i + n) xs)
skip_at p n xs i some run =
    let filled : (n == 0) ≡ false = grind (arith, nat_tests) in
    rw (run, filled) (ap (λ (rest : List ℕ). Some rest) (drop-drop n i xs))

-- one space, and no second
one_space : (xs : List ℕ) (i : ℕ) → i + 1 < length xs → get_or xs i 0 ≡ 32 → (get_or xs (i + 1) 0 == 32) ≡ false
    → behind_run is_space (drop i xs) ≡ Some (drop (i + 1) xs)
one_space xs i lt is next =
    skip_at is_space 1 xs i (omega arith) (run_at is_space xs i 1 lt (λ k below. let first : i + k ≡ i = omega arith in rw first (eq-eqb _ _ is)) next)

-- a line from its parts
stamped_from : (line seconds fraction a b c d e f g h : List ℕ) → behind 40 line ≡ Some a → digits_of 1 12 a ≡ Some (seconds, b)
    → behind 46 b ≡ Some c → digits_of 6 9 c ≡ Some (fraction, d)
    → behind 41 d ≡ Some e → behind_run is_space e ≡ Some f → behind_run is_no_space f ≡ Some g → behind_run is_space g ≡ Some h
    → stamped_frame line ≡ Some (moment_of seconds fraction, h)
stamped_from line seconds fraction a b c d e f g h p q r s t u v w = rw (p, q, r, s, t, u, v, w) refl

no_time : (line : List ℕ) → 0 < length line → get_or line 0 0 ≡ 40 → is_time line ≡ false
no_time [] some is = absurd (omega arith)
no_time (c ∷ line) some is = let first : c ≡ 40 = is in rw first refl

run_of : (p : ℕ → Bool) (xs : List ℕ) (i w n : ℕ) → i + w ≤ length xs → n < w → IsRunIn p xs i w n → prefix_len p (drop i xs) ≡ n
run_of p xs i w n le lt r = run_at p xs i n (omega arith) (λ k below. r.pass (i + k) (omega arith) (omega arith)) (r.stops lt)

pub framed : (line : List ℕ) (word : ℕ) → 21 + word < length line → get_or line 0 0 ≡ 40 → IsRunIn is_digit line 1 16 10 → get_or line 11 0 ≡ 46
    → IsRunIn is_digit line 12 8 6 → get_or line 18 0 ≡ 41
    → get_or line 19 0 ≡ 32 → IsRunIn is_no_space line 20 8 word → 1 ≤ word → word ≤ 6 → (get_or line (21 + word) 0 == 32) ≡ false → IsFramed line (21 + word)
framed line word long begins seconds dot fraction close space name some few next =
    let before : (get_or line 20 0 == 32) ≡ false = not-true _ (name.pass 20 (omega arith) (omega arith)) in
    let at : 20 + word + 1 ≡ 21 + word = omega arith in
    let behind_name : get_or line (20 + word) 0 ≡ 32 = eqb-true _ _ (not-false _ (name.stops (omega arith))) in
    let last = one_space line (20 + word) (omega arith) behind_name (rw at next) in
    record {
      long = omega arith;
      inside = omega arith;
      seconds = seconds;
      fraction = fraction;
      is_frame = no_time line (omega arith) begins;
      stamped = stamped_from line (take 10 (drop 1 line)) (take 6 (drop 12 line)) (drop 1 line) (drop 11 line) (drop 12 line) (drop 18 line)
          (drop 19 line) (drop 20 line) (drop (20 + word) line) (drop (21 + word) line)
          (behind_at 40 line 0 (omega arith) begins)
          (digits_at 1 12 10 line 1 refl (run_of is_digit line 1 16 10 (omega arith) (omega arith) seconds))
          (behind_at 46 line 11 (omega arith) dot)
          (digits_at 6 9 6 line 12 refl (run_of is_digit line 12 8 6 (omega arith) (omega arith) fraction))
          (behind_at 41 line 18 (omega arith) close)
          (one_space line 19 (omega arith) space before)
          (skip_at is_no_space word line 20 (omega arith) (run_at is_no_space line 20 word (omega arith) (λ k below. name.pass (20 + k) (omega arith) (omega arith)) (name.stops (omega arith))))
          (rw at at last);
    }

-- ---- data that are hex digits alone

pub all_run : (xs : List ℕ) → AllPass is_hex_digit xs → prefix_len is_hex_digit xs ≡ length xs
all_run xs all = prefix_len_is is_hex_digit xs (length xs) 0 (omega arith) (λ k below. all k 0 below) (λ lt. absurd (omega arith))

data_from_digits : (rest bytes : List ℕ) → AllPass is_hex_digit rest → length rest ≤ 16 → length rest % 2 ≡ 0 → decode_of rest ≡ Ok bytes
    → frame_data rest ≡ Ok bytes
data_from_digits rest bytes all few even is =
    let count = all_run rest all in
    let fits : nat_lt 16 (length rest) ≡ false = grind (arith, nat_tests) in
    let whole : (length rest % 2 == 1) ≡ false = grind (arith, nat_tests) in
    let none = drop_all (length rest) rest (omega arith) in
    let taken = take_all (length rest) rest (omega arith) in
    rw (count, fits, whole, none, taken, is) refl

-- a hex digit is no mark of another frame
no_mark : (c : ℕ) → is_hex_digit c ≡ true → ((c == 35) ≡ false) × ((c == 82) ≡ false)
no_mark c digit = (ne_eqb c 35 (λ e. cc (sym (ap is_hex_digit e) ∙ digit)), ne_eqb c 82 (λ e. cc (sym (ap is_hex_digit e) ∙ digit)))

data_frame-digits : (known : List KnownId) (id : ℕ) (rest : List ℕ) → AllPass is_hex_digit rest → data_frame known id rest ≡ frame_of id (frame_data rest)
data_frame-digits known id [] all = refl
data_frame-digits known id (c ∷ rest) all =
    let marks = no_mark c (all 0 0 (omega arith)) in
    let hash = marks.0 in
    let remote = marks.1 in
    rw (hash, remote) refl

-- the text of a frame with this identifier, by the digits in front of its `#`
module _ (known : List KnownId) (text rest : List ℕ) (width : ℕ) (run : prefix_len is_hex_digit text ≡ width) (long : width ≤ length text)
    (hash : behind 35 (drop width text) ≡ Some rest) where
  size_of : length (take width text) ≡ width
  size_of = length-take-le width text long

  short_frame-is : (id : ℕ) → width ≡ 3 → id_of (take width text) ≡ Some id → AllPass is_hex_digit rest → text_frame known text ≡ frame_of id (frame_data rest)
  short_frame-is id three is all =
      let other : (length (take width text) == 8) ≡ false = ne_eqb _ 8 (λ same. absurd (omega (arith, size_of, same, three))) in
      rw (run, hash, other, is) (data_frame-digits known id rest all)

  wide_frame-is : width ≡ 8 → text_frame known text ≡ wide_frame known (wide_id_of (take width text)) rest
  wide_frame-is eight = let same : (length (take width text) == 8) ≡ true = eq-eqb _ _ (size_of ∙ eight) in rw (run, hash, same) refl

pub is_ok-from : (rest bytes : List ℕ) → decode_of rest ≡ Ok bytes → IsOk (decode_of rest)
is_ok-from rest bytes is = rw is refl

-- what a line says whose stamp and name were read
pub framed_line : (known : List KnownId) (line text : List ℕ) (moment : ℕ) → 0 < length line → is_time line ≡ false → stamped_frame line ≡ Some (moment, text)
    → line_says known line ≡ stamped moment (text_frame known text)
framed_line known [] text moment long plain stamp = absurd (omega arith)
framed_line known (c ∷ line) text moment long plain stamp = rw (plain, stamp) refl

-- and its frame
pub stamped_says : (known : List KnownId) (line text : List ℕ) (moment : ℕ) (frame : Option Frame) → 0 < length line → is_time line ≡ false → stamped_frame line ≡ Some (moment, text)
    → text_frame known text ≡ Ok frame → line_says known line ≡ Ok (Stamped moment frame)
stamped_says known line text moment frame long plain stamp is = framed_line known line text moment long plain stamp ∙ ap (stamped moment) is

module _ (line : List ℕ) (place width : ℕ) (u : IsUsual line place width) where
  abbrev text : List ℕ
  text = drop place line

  abbrev rest : List ℕ
  rest = drop (place + width + 1) line

  -- the bytes of its frame
  abbrev count : ℕ
  count = (length line - (place + width + 1)) / 2

  size : length rest ≡ length line - (place + width + 1)
  size = length-drop (place + width + 1) line

  even : length rest % 2 ≡ 0
  even = ap (λ (n : ℕ). n % 2) size ∙ u.even

  all : AllPass is_hex_digit rest
  all = All-from_get_or (λ c. is_hex_digit c ≡ true) rest 0
      (λ k below. ap is_hex_digit (get_or-drop (place + width + 1) line k 0) ∙ u.digits (place + width + 1 + k) (omega arith) (omega (arith, size)))

  -- its identifier
  id_run : prefix_len is_hex_digit text ≡ width
  id_run = run_at is_hex_digit line place width (let inside = u.inside in omega arith) (λ k below. u.id (place + k) (omega arith) (omega arith)) (ap is_hex_digit u.mark)

  mark : behind 35 (drop width text) ≡ Some rest
  mark = ap (behind 35) (drop-drop width place line) ∙ behind_at 35 line (place + width) (let inside = u.inside in omega arith) u.mark

  long : width ≤ length text
  long = let inside = u.inside in omega (arith, length-drop place line)

  same : last_digits line count ≡ rest
  same =
      let inside = u.inside in
      let whole = u.even in
      let at : length line - 2 * count ≡ place + width + 1 = omega arith in
      ap (λ (n : ℕ). drop n line) at

  value : (bytes : List ℕ) × (decode_of rest ≡ Ok bytes)
  value = decode_of-digits rest even all

  pub ends : EndsInBytes line count
  ends =
      let inside = u.inside in
      let few = u.few in
      record { few = omega arith; inside = omega arith; hex = rw same (is_ok-from rest value.0 value.1) }

  -- its data
  data_is : frame_data rest ≡ Ok (last_bytes line count)
  data_is =
      let inside = u.inside in
      let few = u.few in
      let bytes : Ok value.0 ≡ Ok (last_bytes line count) = ap (λ (b : List ℕ). Ok b) (sym (ap bytes_or_none (ap decode_of same ∙ value.1))) in
      data_from_digits rest value.0 all (omega (arith, size)) even value.1 ∙ bytes

  -- what it says, by its frame
  framed_says : (known : List KnownId) (frame : Option Frame) → text_frame known text ≡ Ok frame → line_says known line ≡ Ok (Stamped (usual_moment line) frame)
  framed_says known frame is =
      stamped_says known line text (usual_moment line) frame (omega (arith, u.framed.long)) u.framed.is_frame u.framed.stamped is

  -- with three digits
  pub says : width ≡ 3 → (id : ℕ) → id_of (take width text) ≡ Some id → (known : List KnownId)
      → line_says known line ≡ Ok (Stamped (usual_moment line) (Some (usual_frame line place width id)))
  says three id is known = framed_says known _ (short_frame-is known text rest width id_run long mark id three is all ∙ ap (frame_of id) data_is)

  -- with eight
  pub wide_says : width ≡ 8 → (known : List KnownId) (frame : Option Frame) → wide_frame known (wide_id_of (take width text)) rest ≡ Ok frame
      → line_says known line ≡ Ok (Stamped (usual_moment line) frame)
  wide_says eight known frame is = framed_says known frame (wide_frame-is known text rest width id_run long mark eight ∙ is)

  pub among : (known : List KnownId) (id : ℕ) → wide_id_of (take width text) ≡ Some id → is_among known id ≡ true
      → wide_frame known (wide_id_of (take width text)) rest ≡ Ok (Some (usual_frame line place width id))
  among known id is known_is = rw (is, known_is) (data_frame-digits known id rest all ∙ ap (frame_of id) data_is)

-- ---- as a whole line of a capture

pub bus_line-short : (known : List KnownId) (piece line : List ℕ) (said : BusLine) → length piece ≤ 4096 → line ≡ without_return piece → line_says known line ≡ Ok said
    → bus_line known piece ≡ Ok said
bus_line-short known piece line said short same says =
    let not_long : nat_lt 4096 (length piece) ≡ false = grind (arith, nat_tests) in
    rw not_long (ap (line_says known) (sym same) ∙ says)

-- a line that says something isn't too long
pub bus_line-says : (known : List KnownId) (piece : List ℕ) (said : BusLine) → bus_line known piece ≡ Ok said → line_says known (without_return piece) ≡ Ok said
bus_line-says known piece said =
    elim (nat_lt 4096 (length piece)) as (λ b. cond b (Err BadLine) (line_says known (without_return piece)) ≡ Ok said → line_says known (without_return piece) ≡ Ok said) [
      | true ↦ λ is. cc is
      | false ↦ λ is. is
    ]
