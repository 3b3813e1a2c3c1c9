-- Where bytes that vary stand in a reply.
use Rattle.std.specs.Prelude.{◌≡◌, ◌≤◌, ◌<◌, ◌+◌, ◌↔◌, ℕ, true, List, [], ◌∷◌, ◌++◌, length, slice_index, option_map}
use Rattle.diag_setup.specs.declared.raw.RawDid.{RawDid}
use Rattle.diag_setup.specs.declared.raw.RawSetup.{RawSetup}
use Rattle.diag_store.specs.Dids.{value_of}
use Rattle.diag_ecu.specs.Elapse.{elapse}
use Rattle.diag_ecu.specs.Respond.{after_request, data_records, data_reply, ids}
use Rattle.diag_ecu.specs.State.{State, opening}
use Rattle.diag_exchange.specs.Agreeing.{marks}
use Rattle.diag_expect.specs.Expecting.{did_of, is_mark, own_marks, varies_at}

-- ---- lengths

abbrev pub value_length : RawDid → ℕ
value_length did = length did.value

-- each identifier has a value as long as the setup's, and there are no others
abbrev pub HasLengths : RawSetup → State → Type 0
HasLengths setup s = (id : ℕ) → option_map (λ v. length v) (value_of s.dids id) ≡ option_map value_length (did_of setup id)

-- so it is at the opening, and behind each request and any time
pub record LengthsLaw : Type 0 where
  pub opening : (setup : RawSetup) → HasLengths setup (opening setup)
  pub request : (setup : RawSetup) (s : State) (who : ℕ) (p : List ℕ) → HasLengths setup s → HasLengths setup (after_request s who p)
  pub time : (setup : RawSetup) (s : State) (who n : ℕ) → HasLengths setup s → HasLengths setup (elapse s who n)

-- ---- values

-- A reply to a request for these identifiers has at this place a byte of a value that varies: of one that is read behind
-- these others, and behind the two bytes that name it.
pub record IsOfValue (setup : RawSetup) (s : State) (read : List ℕ) (i : ℕ) : Type 0 where
  pub before : List ℕ
  pub id : ℕ
  pub behind : List ℕ
  pub all : read ≡ before ++ id ∷ behind
  pub varies : varies_at setup id ≡ true
  pub from : length (data_records s before) + 2 ≤ i
  pub to : i < length (data_records s (before ++ id ∷ []))

-- of the services' reply to ReadDataByIdentifier any byte will do where it is of such a value, and nowhere else
abbrev pub ValuesLaw : Type 0
ValuesLaw = (setup : RawSetup) (s : State) (p : List ℕ) (i : ℕ)
    → HasLengths setup s
    → (is_mark (slice_index (marks (own_marks setup p (data_reply s p))) i) ≡ true) ↔ IsOfValue setup s (ids p) i
