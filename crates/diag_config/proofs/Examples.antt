-- Patterns, templates, a row of answers and a tester of CAN FD as they are read, computed.
use Rattle.std.proofs.Common.{◌≡◌, true, false, [], ◌∷◌, Some, None, Ok, Err, pos, refl, codes}
use Rattle.diag_setup.specs.ExampleSetup.{tester, echo_row, rounds_row, enter_row}
use Rattle.diag_setup.specs.declared.raw.PatternItem.TheVariants as patterns
use Rattle.diag_setup.specs.declared.raw.TemplateItem.TheVariants as items
use Rattle.toml.specs.Data.{Members, Data, string, integer, boolean, array, no_items, item, no_members, member}
use Rattle.diag_config.specs.Answer.{pattern_of, template_of}
use Rattle.diag_config.specs.Key.{bad_value}
use Rattle.diag_config.specs.Setup.{template, list, required, optional, with_default, tester_at, transport_at, answer_at, ignore_at}

echo_pattern : pattern_of (codes "28....*") ≡ Some (record { items = echo_row.pattern; more = true })
echo_pattern = refl

rounds_pattern : pattern_of (codes "22f40C") ≡ Some (record { items = rounds_row.pattern; more = false })
rounds_pattern = refl

half_an_item : pattern_of (codes "2") ≡ None
half_an_item = refl

star_in_the_middle : pattern_of (codes "2*2") ≡ None
star_in_the_middle = refl

star_for_an_item : pattern_of (codes "28**") ≡ None
star_for_an_item = refl

no_item : pattern_of [] ≡ None
no_item = refl

star_alone : pattern_of (codes "*") ≡ None
star_alone = refl

no_digit : pattern_of (codes "2G") ≡ None
no_digit = refl

one_dot : pattern_of (codes "2.") ≡ None
one_dot = refl

echo_template : template_of (codes "68$1") ≡ Some (items.Byte 0x68 ∷ items.OfRequest 1 ∷ [])
echo_template = refl

varying_template : template_of (codes "62??$a") ≡ Some (items.Byte 0x62 ∷ items.Varies ∷ items.OfRequest 10 ∷ [])
varying_template = refl

empty_template : template_of [] ≡ Some []
empty_template = refl

half_a_template : template_of (codes "6") ≡ None
half_a_template = refl

no_index : template_of (codes "$G") ≡ None
no_index = refl

star_behind_a_template : template_of (codes "68*") ≡ None
star_behind_a_template = refl

reply_is_no_list : list template (codes "answer.reply") (string (codes "68")) ≡ Err (bad_value (codes "answer.reply"))
reply_is_no_list = refl

reply_of_half_an_item : list template (codes "answer.reply") (array (item (string (codes "6")) no_items)) ≡ Err (bad_value (codes "answer.reply"))
reply_of_half_an_item = refl

the_row : answer_at (
    member (codes "request") (string (codes "1002"))
    (member (codes "reply") (array (item (string (codes "5002003201F4")) no_items))
    (member (codes "session") (integer (pos 3)) (member (codes "enter") (integer (pos 2)) no_members)))
    ) ≡ Ok enter_row
unfolding answer_at required optional with_default
the_row = refl

patterns_to_ignore : ignore_at (member (codes "ignore") (array (item (string (codes "3E80")) (item (string (codes "28*")) no_items))) no_members)
    ≡ Ok (record { items = patterns.Byte 0x3E ∷ patterns.Byte 0x80 ∷ []; more = false } ∷ record { items = patterns.Byte 0x28 ∷ []; more = true } ∷ [])
unfolding ignore_at with_default
patterns_to_ignore = refl

ignored_text_alone : ignore_at (member (codes "ignore") (string (codes "3E80")) no_members) ≡ Err (bad_value (codes "ignore"))
unfolding ignore_at with_default
ignored_text_alone = refl

ignored_half_an_item : ignore_at (member (codes "ignore") (array (item (string (codes "3E8")) no_items)) no_members) ≡ Err (bad_value (codes "ignore"))
unfolding ignore_at with_default
ignored_half_an_item = refl

-- the keys of a tester, where `fd` holds this
abbrev tester_with : Data → Members
tester_with fd =
    member (codes "name") (string (codes "A"))
    (member (codes "request") (integer (pos 0x7E0)) (member (codes "response") (integer (pos 0x7E8)) (member (codes "fd") fd no_members)))

fd_tester : tester_at (tester_with (boolean true)) ≡ Ok (record (tester (codes "A") 0x7E0 0x7E8) { fd = true })
unfolding tester_at required optional with_default
fd_tester = refl

fd_of_one : tester_at (tester_with (integer (pos 1))) ≡ Err (bad_value (codes "tester.fd"))
unfolding tester_at required optional with_default
fd_of_one = refl

link_defaults : transport_at no_members
    ≡ Ok (record { block_size = 0; st_min = 0; max_request = 4095; pad = true; pad_byte = 0xCC; tx_dl = 64; fd_flags = 1 })
unfolding transport_at with_default
link_defaults = refl

tx_dl_before_flags : transport_at (member (codes "fd_flags") (boolean true) (member (codes "tx_dl") (boolean true) no_members)) ≡ Err (bad_value (codes "tx_dl"))
unfolding transport_at with_default
tx_dl_before_flags = refl
