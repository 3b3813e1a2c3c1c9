-- What is expected of a request, computed.
use Rattle.std.proofs.Common.{◌≡◌, ℕ, true, false, Option, Some, None, List, [], ◌∷◌, codes, replicate, refl}
use Rattle.diag_setup.specs.ExampleSetup.{answer, did, level, pattern_bytes, two_testers}
use Rattle.diag_setup.specs.declared.raw.PatternItem.TheVariants as pattern
use Rattle.diag_setup.specs.declared.raw.RawSetup.{RawSetup}
use Rattle.diag_setup.specs.declared.raw.TemplateItem.TheVariants as template
use Rattle.diag_ecu.specs.Respond.{reply}
use Rattle.diag_ecu.specs.State.{opening}
use Rattle.diag_exchange.specs.declared.happening.Expected.{Expected}
use Rattle.diag_expect.specs.Expecting.{entered_of, expected_of}

-- the identifier F190 varies and another doesn't, seeds vary, a row answers the read of F40C, and TesterPresent is ignored
abbrev lax : RawSetup
lax = record two_testers {
  dids = record did { varies = true; read_level = 0 } ∷ record did { id = 0xF191; value = 0x01 ∷ 0x02 ∷ [] } ∷ [];
  levels = record level { varies = true } ∷ [];
  answers = answer (pattern_bytes (0x22 ∷ 0xF4 ∷ 0x0C ∷ []))
      (Some ((template.Byte 0x62 ∷ template.OfRequest 1 ∷ template.OfRequest 2 ∷ template.Varies ∷ template.Varies ∷ []) ∷ [])) ∷ [];
  ignore = record { items = pattern.Byte 0x3E ∷ []; more = true } ∷ [];
}

-- what is expected of the first request, where this is the reply
abbrev replied : List ℕ → Option (List ℕ) → Expected
replied p reply = expected_of lax (entered_of (opening lax) 1 (record { functional = false; message = p }) reply)

abbrev asked : List ℕ → Expected
asked p = replied p (reply (opening lax) 1 false p)

value_varies : asked (0x22 ∷ 0xF1 ∷ 0x90 ∷ []) ≡ record {
  reply = Some (0x62 ∷ 0xF1 ∷ 0x90 ∷ codes "TESTVIN0123456789");
  varies = Some (0 ∷ 0 ∷ 0 ∷ replicate 17 1);
  own = true;
  ignored = false;
}
value_varies = refl

-- of two identifiers the value of one alone
one_of_two : (asked (0x22 ∷ 0xF1 ∷ 0x91 ∷ 0xF1 ∷ 0x90 ∷ [])).varies ≡ Some (0 ∷ 0 ∷ 0 ∷ 0 ∷ 0 ∷ 0 ∷ 0 ∷ replicate 17 1)
one_of_two = refl

-- an identifier that is unknown has no record, and one that doesn't vary frees nothing
unknown_passed_over : (asked (0x22 ∷ 0x00 ∷ 0x01 ∷ 0xF1 ∷ 0x90 ∷ [])).varies ≡ Some (0 ∷ 0 ∷ 0 ∷ replicate 17 1)
unknown_passed_over = refl

other_value : (asked (0x22 ∷ 0xF1 ∷ 0x91 ∷ [])).varies ≡ None
other_value = refl

refused : (asked (0x22 ∷ 0x00 ∷ 0x01 ∷ [])).varies ≡ None
refused = refl

-- a seed is asked for in the extended session alone
no_seed : (asked (0x27 ∷ 0x01 ∷ [])).varies ≡ None
no_seed = refl

seed_varies : (replied (0x27 ∷ 0x01 ∷ []) (Some (0x67 ∷ 0x01 ∷ 0x11 ∷ 0x22 ∷ 0x33 ∷ 0x44 ∷ []))).varies ≡ Some (0 ∷ 0 ∷ 1 ∷ 1 ∷ 1 ∷ 1 ∷ [])
seed_varies = refl

key_taken : (replied (0x27 ∷ 0x02 ∷ 0xAA ∷ 0xBB ∷ 0xCC ∷ 0xDD ∷ []) (Some (0x67 ∷ 0x02 ∷ []))).varies ≡ None
key_taken = refl

-- a row's reply is not the model's own, and what its template leaves open has a mark of its own
of_a_row : asked (0x22 ∷ 0xF4 ∷ 0x0C ∷ []) ≡ record {
  reply = Some (0x62 ∷ 0xF4 ∷ 0x0C ∷ 0x00 ∷ 0x00 ∷ []);
  varies = Some (0 ∷ 0 ∷ 0 ∷ 2 ∷ 2 ∷ []);
  own = false;
  ignored = false;
}
of_a_row = refl

ignored : asked (0x3E ∷ 0x00 ∷ []) ≡ record { reply = Some (0x7E ∷ 0x00 ∷ []); varies = None; own = true; ignored = true }
ignored = refl
