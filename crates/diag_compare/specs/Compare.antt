-- The text of `compare`, and the status that it ends with.
use Rattle.std.specs.Prelude.{ℕ, ◌&&◌, ◌||◌, not, codes, Bool, if◌then◌else◌, List, [], ◌∷◌, ◌++◌, length, map, drop}
use Rattle.std.specs.Fmt.{decimal}
use Rattle.std.specs.List.{filter, flat_map, list_any}
use Rattle.diag_setup.specs.Rows.{in_order}
use Rattle.diag_setup.specs.Setup.{name_of}
use Rattle.diag_setup.specs.declared.raw.RawSetup.{RawSetup}
use Rattle.diag_ecu.specs.State.{State}
use Rattle.diag_desk.specs.declared.entry.Entry.{Entry}
use Rattle.diag_bus.specs.Verdict.{numbers}
use Rattle.diag_exchange.specs.Agreeing.{is_compared}
use Rattle.diag_exchange.specs.Exchanges.{left_open, over, over_at_end}
use Rattle.diag_exchange.specs.declared.happening.Expected.{Expected}
use Rattle.diag_exchange.specs.Over.{Over}
use Rattle.diag_judge.specs.Judging.{differs}
use Rattle.diag_compare.specs.Hearing.{happenings}
use Rattle.diag_compare.specs.Told.{line_number, told_line}

-- with `--differences` the exchanges that agree aren't told
abbrev pub is_told : Bool → ℕ × Over → Bool
is_told differences told = not differences || differs told.1

abbrev pub beside : ℕ → Over → ℕ × Over
beside t o = (t, o)

-- the last line, where nothing was compared
abbrev pub last_line : Bool → List ℕ
last_line nothing = if nothing then codes "nothing compared\n" else []

module _ (expects : State → Entry → Expected) (setup : RawSetup) where
  -- all exchanges of a tester, and the messages that no request of it asked
  abbrev pub exchanges : List (List ℕ) → ℕ → List Over
  exchanges lines t = over_at_end (happenings expects setup t lines)

  -- ---- as they are over

  -- what is over for a tester with a line, and wasn't before
  abbrev pub over_by : List (List ℕ) → List ℕ → ℕ → List (ℕ × Over)
  over_by past line t = map (beside t) (drop (length (over (happenings expects setup t past)))
      (over (happenings expects setup t (past ++ line ∷ []))))

  -- what isn't over for a tester
  abbrev pub open_for : List (List ℕ) → ℕ → List (ℕ × Over)
  open_for lines t = map (beside t) (left_open (happenings expects setup t lines))

  module _ (differences : Bool) where
    -- by the line of the request, at one line by the testers' order
    abbrev pub lines_of : List (List ℕ) → List (ℕ × Over) → List ℕ
    lines_of lines told =
        flat_map (told_line setup lines) (filter (is_told differences) (in_order line_number told))

    abbrev pub compared_by : List (List ℕ) → List ℕ → List ℕ
    compared_by past line = lines_of (past ++ line ∷ []) (flat_map (over_by past line) (numbers setup))

    abbrev pub compared_after : List (List ℕ) → List (List ℕ) → List ℕ
    compared_after past [] = []
    compared_after past (line ∷ lines) = compared_by past line ++ compared_after (past ++ line ∷ []) lines

    -- what is written while the lines go by; of a capture with a fault it is all, of the lines before that
    abbrev pub compared : List (List ℕ) → List ℕ
    compared lines = compared_after [] lines

  -- ---- at the end

  abbrev pub all_exchanges : List (List ℕ) → List Over
  all_exchanges lines = flat_map (exchanges lines) (numbers setup)

  -- something differs
  abbrev pub any_differs : List (List ℕ) → Bool
  any_differs lines = list_any differs (all_exchanges lines)

  -- nothing differs, and the unit has sent nothing that is compared
  abbrev pub compares_nothing : List (List ℕ) → Bool
  compares_nothing lines = not (any_differs lines) && not (list_any is_compared (all_exchanges lines))

  abbrev pub count_line : List (List ℕ) → ℕ → List ℕ
  count_line lines t = name_of setup t ++ codes " " ++ decimal (length (exchanges lines t)) ++ codes " exchanges, "
      ++ decimal (length (filter differs (exchanges lines t))) ++ codes " differ\n"

  -- what the end of a capture adds
  abbrev pub closing : Bool → List (List ℕ) → List ℕ
  closing differences lines = lines_of differences lines (flat_map (open_for lines) (numbers setup))
      ++ flat_map (count_line lines) (numbers setup)
      ++ last_line (compares_nothing lines)

  -- all that is written for a capture without a fault
  abbrev pub compare_text : Bool → List (List ℕ) → List ℕ
  compare_text differences lines = compared differences lines ++ closing differences lines

  -- the status that it ends with then
  abbrev pub status : List (List ℕ) → ℕ
  status lines = if any_differs lines then 8 else if compares_nothing lines then 9 else 0
