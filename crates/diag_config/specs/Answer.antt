-- What the texts of patterns and templates say: two characters for each item.
use Rattle.std.specs.Prelude.{ℕ, ◌+◌, ◌*◌, ◌==◌, ◌&&◌, Bool, true, false, if◌then◌else◌, List, [], ◌∷◌, length, Option, Some, None, option_map}
use Rattle.std.specs.Option.{option_and_then, option_zip}
use Rattle.hex.specs.Hex.{hex_digit_value}
use Rattle.diag_setup.specs.declared.raw.PatternItem.{PatternItem}
use Rattle.diag_setup.specs.declared.raw.PatternItem.TheVariants as pattern
use Rattle.diag_setup.specs.declared.raw.RawPattern.{RawPattern}
use Rattle.diag_setup.specs.declared.raw.TemplateItem.{TemplateItem}
use Rattle.diag_setup.specs.declared.raw.TemplateItem.TheVariants as template

-- the byte that two hex digits of either case write
abbrev pub byte_of : ℕ → ℕ → Option ℕ
byte_of high low =
    option_map (λ digits. digits.0 * 16 + digits.1)
    (option_zip (hex_digit_value high) (hex_digit_value low))

-- `..` is any byte, other items are bytes
abbrev pub pattern_item : ℕ → ℕ → Option PatternItem
pattern_item a b =
    if a == 46 && b == 46 then Some pattern.Any else option_map pattern.Byte (byte_of a b)

-- `??` is a byte that varies, `$` and a hex digit the byte of the request at that index, other items are bytes
abbrev pub template_item : ℕ → ℕ → Option TemplateItem
template_item a b =
    if a == 63 && b == 63 then Some template.Varies
    else if a == 36 then option_map template.OfRequest (hex_digit_value b)
    else option_map template.Byte (byte_of a b)

-- the items of a text, and the character behind them, where one is left
abbrev pub items_of : {X : Type 0} → (ℕ → ℕ → Option X) → List ℕ → Option (List X × Option ℕ)
items_of item [] = Some ([], None)
items_of item (a ∷ []) = Some ([], Some a)
items_of item (a ∷ b ∷ text) =
    option_and_then (λ first. option_map (λ read. (first ∷ read.0, read.1)) (items_of item text))
    (item a b)

-- whether more bytes may follow, by what stands behind the items of a pattern: nothing, or `*`
abbrev pub more_by : Option ℕ → Option Bool
more_by None = Some false
more_by (Some c) = if c == 42 then Some true else None

-- a pattern has an item
abbrev pub pattern_with : List PatternItem → Option ℕ → Option RawPattern
pattern_with items last =
    if length items == 0 then None
    else option_map (λ more. record { items = items; more = more }) (more_by last)

-- the pattern that a text says
abbrev pub pattern_of : List ℕ → Option RawPattern
pattern_of text = option_and_then (λ read. pattern_with read.0 read.1) (items_of pattern_item text)

-- nothing stands behind the items of a template
abbrev pub template_with : List TemplateItem → Option ℕ → Option (List TemplateItem)
template_with items None = Some items
template_with items (Some c) = None

-- the template that a text says
abbrev pub template_of : List ℕ → Option (List TemplateItem)
template_of text = option_and_then (λ read. template_with read.0 read.1) (items_of template_item text)
