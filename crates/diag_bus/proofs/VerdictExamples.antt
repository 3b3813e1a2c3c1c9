-- The verdict on a recording, computed.
use Rattle.std.proofs.Common.{◌≡◌, ℕ, Some, List, [], ◌∷◌, ◌++◌, codes, refl}
use Rattle.std.specs.Fmt.{digits}
use Rattle.hex.proofs.OnLiterals.{hex_on_literals}
use Rattle.diag_tp.specs.Gives.{gives}
use Rattle.diag_pdu.specs.Kind.{kind}
use Rattle.diag_pdu.specs.Cut.{cut}
use Rattle.diag_tp.specs.Reception.{open_at}
use Rattle.diag_tp.specs.Sending.{course}
use Rattle.diag_tp.specs.Wire.{wire, sendings, grant}
use Rattle.diag_can.specs.BusLine.{bus_lines}
use Rattle.diag_port.specs.Late.{pendings}
use Rattle.diag_setup.specs.ExampleSetup.{answer, pattern_bytes, template_bytes, two_testers}
use Rattle.diag_setup.specs.declared.raw.RawSetup.{RawSetup}
use Rattle.diag_bus.specs.Verdict.{agreement_text, verdict, verdict_text}
use Rattle.diag_bus.specs.declared.verdict.Verdict.{Verdict}
use Rattle.diag_bus.specs.declared.verdict.Verdict.TheVariants.{Agrees}
use Rattle.diag_bus.proofs.Examples.{order}

abbrev said : List ℕ → Verdict
said text = verdict two_testers (bus_lines text)

abbrev told : List ℕ → List ℕ
told text = verdict_text two_testers (said text)

abbrev agreed : List ℕ → List ℕ
agreed text = agreement_text two_testers (bus_lines text)

-- the recording has the first of A's two frames, and none of B's
missing : told order ≡ codes "A sent 1 frames, expected 065001003201F4CC next"
unfolding hex_on_literals digits wire sendings grant course cut open_at kind gives pendings
missing = refl

-- all four frames, B's late and A's with response pending before it, filled and not: the two agree
abbrev whole : List ℕ
whole =
    codes "(0000000100.000000) can0 7E0#021003\n"
    ++ codes "(0000000100.000200) can0 7E8#037F1078CCCCCCCC\n"
    ++ codes "(0000000100.000300) can0 7E8#037F1078\n"
    ++ codes "(0000000100.000400) can0 7E8#065003003201F4CC\n"
    ++ codes "(0000000100.010000) can0 7E1#021003\n"
    ++ codes "(0000000100.020000) can0 7E0#021001\n"
    ++ codes "(0000000100.021000) can0 7E8#065001003201F4CC\n"
    ++ codes "(0000000100.030000) can0 7E1#021003\n"
    ++ codes "(0000000100.040000) can0 7E9#037F1021CCCCCCCC\n"
    ++ codes "(0000000100.041000) can0 7E9#065003003201F4CC\n"

agree : said whole ≡ Agrees
unfolding hex_on_literals digits wire sendings grant course cut open_at kind gives pendings
agree = refl

agree_told : agreed whole ≡ codes "A 2 frames agree\nB 2 frames agree\n"
unfolding hex_on_literals digits wire sendings grant course cut open_at kind gives pendings
agree_told = refl

-- a frame that differs in its last byte, padding
filling : told (codes "(100.000000) can0 7E0#021003\n(100.001000) can0 7E8#065003003201F4AA\n")
    ≡ codes "line 2: A sent 065003003201F4AA, expected 065003003201F4CC"
unfolding hex_on_literals digits wire sendings grant course cut open_at kind gives pendings
filling = refl

-- a frame that nothing asked for; B's line is the first that differs, though A is the first tester
nothing : told (
    codes "(100.000000) can0 7E0#021003\n(100.001000) can0 7E9#0250\n"
    ++ codes "(100.002000) can0 7E8#0250\n")
    ≡ codes "line 2: B sent 0250, expected nothing"
unfolding hex_on_literals digits wire sendings grant course cut open_at kind gives pendings
nothing = refl

-- by its stamp in milliseconds the second ConsecutiveFrame comes before the server sends it, and a later line settles it
abbrev early : List ℕ
early =
    codes "(100.000900) can0 7E0#0322F190\n"
    ++ codes "(100.001000) can0 7E8#101462F190544553\n"
    ++ codes "(100.020900) can0 7E0#30000A\n"
    ++ codes "(100.020950) can0 7E8#215456494E303132\n"
    ++ codes "(100.029990) can0 7E8#2233343536373839\n"

early_settled : said (early ++ codes "(100.031000) can0 123#00\n") ≡ Agrees
unfolding hex_on_literals digits wire sendings grant course cut open_at kind gives pendings
early_settled = refl

-- at the capture's end it is a difference
early_at_the_end : told early ≡ codes "line 5: A sent 2233343536373839, expected nothing"
unfolding hex_on_literals digits wire sendings grant course cut open_at kind gives pendings
early_at_the_end = refl

-- response pending is left out of what the server sends, too: here a row of answers says it
abbrev waiting : RawSetup
waiting = record two_testers {
  answers = answer (pattern_bytes (0x14 ∷ 0xFF ∷ 0xFF ∷ 0xFF ∷ [])) (Some (template_bytes (0x7F ∷ 0x14 ∷ 0x78 ∷ []) ∷ [])) ∷ [];
}

abbrev waited : List (List ℕ)
waited = bus_lines (
    codes "(100.000000) can0 7E0#0414FFFFFF\n(100.010000) can0 7E0#021003\n"
    ++ codes "(100.011000) can0 7E8#065003003201F4CC\n")

left_out : verdict waiting waited ≡ Agrees
unfolding hex_on_literals digits wire sendings grant course cut open_at kind gives pendings
left_out = refl

left_out_told : agreement_text waiting waited ≡ codes "A 1 frames agree\nB 0 frames agree\n"
unfolding hex_on_literals digits wire sendings grant course cut open_at kind gives pendings
left_out_told = refl
