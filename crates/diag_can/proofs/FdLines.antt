-- Lines of CAN FD with a usual stamp and name.
use Rattle.std.proofs.Common.{◌≡◌, ℕ, ◌+◌, ◌-◌, ◌*◌, ◌/◌, ◌%◌, ◌==◌, suc, true, false, List, [], ◌∷◌, length, take, drop, Some, None, Option, Ok, refl, sym, ap, ◌∙◌, arith, length-drop, drop-cons, drop-drop, length-take-le}
use Rattle.std.specs.List.{AllPass, prefix_len}
use Rattle.std.proofs.lemmas.Bool.{ne_eqb}
use Rattle.std.proofs.lemmas.List.{get_or-drop, take_all, drop_all}
use Rattle.std.proofs.lemmas.List.Elements.{All-from_get_or}
use Rattle.hex.specs.Hex.{is_hex_digit, decode_of}
use Rattle.hex.proofs.HexLemmas.{decode_of-digits}
use Rattle.diag_can.specs.FrameText.{EndsInBytes, bytes_or_none, last_bytes, last_digits}
use Rattle.diag_can.specs.Line.{fd_data, fd_frame, fd_rest, id_of, is_fd_among, is_fd_length, line_says, text_frame}
use Rattle.diag_can.specs.MomentText.{usual_moment}
use Rattle.diag_can.specs.Stamp.{behind}
use Rattle.diag_can.specs.Usual.{IsFd}
use Rattle.diag_can.specs.declared.bus_line.BusLine.TheVariants.{Stamped}
use Rattle.diag_can.specs.declared.frame.Frame.{Frame}
use Rattle.diag_can.specs.declared.frame.KnownId.{KnownId}
use Rattle.diag_can.proofs.FrameTexts.{fd_frame-is}
use Rattle.diag_can.proofs.UsualLines.{all_run, behind_at, is_ok-from, run_at, stamped_says}

module _ (line : List ℕ) (place : ℕ) (u : IsFd line place) where
  abbrev text : List ℕ
  text = drop place line

  abbrev digits : List ℕ
  digits = drop (place + 6) line

  size : length digits ≡ length line - (place + 6)
  size = length-drop (place + 6) line

  all : AllPass is_hex_digit digits
  all = All-from_get_or (λ c. is_hex_digit c ≡ true) digits 0
      (λ k below. ap is_hex_digit (get_or-drop (place + 6) line k 0) ∙ u.digits (place + 6 + k) (omega arith) (omega (arith, size)))

  -- its identifier
  id_run : prefix_len is_hex_digit text ≡ 3
  id_run = run_at is_hex_digit line place 3 (let inside = u.inside in omega arith) (λ k below. u.id (place + k) (omega arith) (omega arith)) (ap is_hex_digit u.mark)

  mark : behind 35 (drop 3 text) ≡ Some (drop (place + 4) line)
  mark =
      let inside = u.inside in
      let next : place + 3 + 1 ≡ place + 4 = omega arith in
      ap (behind 35) (drop-drop 3 place line) ∙ behind_at 35 line (place + 3) (omega arith) u.mark ∙ ap (λ (n : ℕ). Some (drop n line)) next

  -- what stands behind both marks
  second : drop (place + 4) line ≡ 35 ∷ drop (place + 5) line
  second =
      let inside = u.inside in
      let next : suc (place + 4) ≡ place + 5 = omega arith in
      let byte = u.second in
      rw (drop-cons line (place + 4) 0 (omega arith), byte, next) refl

  text_is : (known : List KnownId) (id : ℕ) → id_of (take 3 text) ≡ Some id → text_frame known text ≡ fd_frame known id (drop (place + 5) line)
  text_is known id is =
      let inside = u.inside in
      let width : length (take 3 text) ≡ 3 = length-take-le 3 text (omega (arith, length-drop place line)) in
      let other : (length (take 3 text) == 8) ≡ false = ne_eqb _ 8 (λ same. absurd (omega (arith, width, same))) in
      let run = id_run in
      let hash = mark in
      let rest = second in
      rw (run, hash, other, is, rest) refl

  -- what it says, by its frame
  pub fd_says : (known : List KnownId) (id : ℕ) (frame : Option Frame) → id_of (take 3 text) ≡ Some id
      → fd_frame known id (drop (place + 5) line) ≡ Ok frame → line_says known line ≡ Ok (Stamped (usual_moment line) frame)
  fd_says known id frame is says =
      stamped_says known line text (usual_moment line) frame (omega (arith, u.framed.long)) u.framed.is_frame u.framed.stamped (text_is known id is ∙ says)

  pub passed_over : (known : List KnownId) (id : ℕ) → is_fd_among known id ≡ false → fd_frame known id (drop (place + 5) line) ≡ Ok None
  passed_over known id other = rw other refl

  module _ (even : (length line - (place + 6)) % 2 ≡ 0) where
    abbrev count : ℕ
    count = (length line - (place + 6)) / 2

    same : last_digits line count ≡ digits
    same =
        let inside = u.inside in
        let at : length line - 2 * count ≡ place + 6 = omega arith in
        ap (λ (n : ℕ). drop n line) at

    value : (bytes : List ℕ) × (decode_of digits ≡ Ok bytes)
    value = decode_of-digits digits (ap (λ (n : ℕ). n % 2) size ∙ even) all

    pub ends_in : EndsInBytes line count
    ends_in =
        let inside = u.inside in
        let few = u.few in
        record { few = omega arith; inside = omega arith; hex = rw same (is_ok-from digits value.0 value.1) }

    -- its flags
    flags : fd_rest (drop (place + 5) line) ≡ fd_data digits
    flags =
        let inside = u.inside in
        let next : suc (place + 5) ≡ place + 6 = omega arith in
        let digit = u.digits (place + 5) (omega arith) (omega arith) in
        rw (drop-cons line (place + 5) 0 (omega arith), digit, next) refl

    -- its frame
    pub fd_frame_is : (known : List KnownId) (id : ℕ) → is_fd_among known id ≡ true → is_fd_length count ≡ true
        → fd_frame known id (drop (place + 5) line) ≡ Ok (Some (record { id = id; bytes = last_bytes line count }))
    fd_frame_is known id read fits =
        let few = u.few in
        let whole : take (length digits) digits ≡ digits = take_all (length digits) digits (omega arith) in
        let none : drop (length digits) digits ≡ [] = drop_all (length digits) digits (omega arith) in
        let half : length digits / 2 ≡ count = ap (λ (n : ℕ). n / 2) size in
        let made = fd_frame-is digits (length digits) (sym (all_run digits all)) (omega (arith, size)) (ap (λ (n : ℕ). n % 2) size ∙ even) id
        (rw half fits) (rw none refl) in
        let bytes : last_bytes (take (length digits) digits) (length digits / 2) ≡ last_bytes line count =
        ap bytes_or_none (ap decode_of (same_digits whole half ∙ sym same)) in
        rw (read, flags) (made ∙ ap (λ (b : List ℕ). Ok (Some (record { id = id; bytes = b }))) bytes)
      where
        same_digits : take (length digits) digits ≡ digits → length digits / 2 ≡ count → last_digits (take (length digits) digits) (length digits / 2) ≡ digits
        same_digits whole half =
            let inside = u.inside in
            let at : length digits - 2 * (length digits / 2) ≡ 0 = omega (arith, size, even) in
            rw (whole, at) refl
