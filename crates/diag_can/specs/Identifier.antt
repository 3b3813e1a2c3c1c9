-- Identifiers: those of 11 bits are their numbers, and behind them come those of 29 bits. So 7E0 and 000007E0 are two.
use Rattle.std.specs.Prelude.{ℕ, ◌+◌, ◌-◌, nat_le, nat_lt, Bool, if◌then◌else◌}

-- the identifier of 29 bits that has this number
abbrev pub extended : ℕ → ℕ
extended number = 2048 + number

abbrev pub is_extended : ℕ → Bool
is_extended id = nat_le 2048 id

-- the number of an identifier of either kind
abbrev pub number_of : ℕ → ℕ
number_of id = if nat_lt id 2048 then id else id - 2048
