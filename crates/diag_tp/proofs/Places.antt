-- Which frames a list may have.
use Rattle.std.proofs.Common.{◌≡◌, ◌<◌, refl, arith}
use Rattle.std.specs.Prelude.{IsFalse}
use Rattle.diag_pdu.specs.declared.length.DataLength.{DataLength}
use Rattle.diag_pdu.specs.declared.length.DataLength.TheVariants.{Dl8, Dl12, Dl16, Dl20, Dl24, Dl32, Dl48, Dl64}
use Rattle.diag_tp.specs.SentFrames.{HasPlaces, SentList}

-- a list without longer frames is for a side that sends none
pub is_classic : (d : DataLength) (list : SentList) → IsFalse list.is_long → HasPlaces d list → d ≡ Dl8
is_classic Dl8 list short places = refl
is_classic Dl12 list short places = absurd (grind (arith, places (omega arith)))
is_classic Dl16 list short places = absurd (grind (arith, places (omega arith)))
is_classic Dl20 list short places = absurd (grind (arith, places (omega arith)))
is_classic Dl24 list short places = absurd (grind (arith, places (omega arith)))
is_classic Dl32 list short places = absurd (grind (arith, places (omega arith)))
is_classic Dl48 list short places = absurd (grind (arith, places (omega arith)))
is_classic Dl64 list short places = absurd (grind (arith, places (omega arith)))
