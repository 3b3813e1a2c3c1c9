-- Whose the frames of an identifier are.
use Rattle.std.specs.Prelude.{◌≡◌, ◌+◌, ◌≤◌, ◌==◌, if◌then◌else◌, ℕ, List, [], ◌∷◌, length, Some, slice_get}
use Rattle.std.specs.List.{flat_map}
use Rattle.diag_can.specs.Event.{Event}
use Rattle.diag_can.specs.Event as event
use Rattle.diag_setup.specs.declared.raw.RawSetup.{RawSetup}
use Rattle.diag_setup.specs.Setup.{ids_of, known_ids}
use Rattle.diag_pdu.specs.Cut.{counted_from}
use Rattle.diag_bus.specs.Events.{frame_to}
use Rattle.diag_bus.specs.declared.request_ids.Owner.{Owner}
use Rattle.diag_bus.specs.declared.request_ids.Owner.TheVariants.{Nobody, Tester, Functional}
use Rattle.diag_bus.specs.declared.request_ids.RequestIds.{RequestIds}

-- what a functional frame is to a tester: its own functional identifier decides
abbrev pub functional_to : RawSetup → ℕ → List ℕ → ℕ → List (ℕ × Event)
functional_to setup id bytes t =
    if id == (ids_of setup t).functional then (t, event.Functional bytes) ∷ [] else []

-- the same to so many testers
abbrev pub functional_to_all : RawSetup → ℕ → ℕ → List ℕ → List (ℕ × Event)
functional_to_all setup id n bytes = flat_map (functional_to setup id bytes) (counted_from 1 n)

-- what a frame with this identifier and these bytes is to so many testers, by whose it is
abbrev pub given : RawSetup → ℕ → ℕ → Owner → List ℕ → List (ℕ × Event)
given setup id n Nobody bytes = []
given setup id n (Tester who) bytes = (who, event.Physical bytes) ∷ []
given setup id n Functional bytes = functional_to_all setup id n bytes

-- the tester of this number is one of so many
abbrev pub IsWithin : ℕ → ℕ → Type 0
IsWithin n who = (1 ≤ who) × (who ≤ n)

-- the owner is that of the identifier, among so many testers
abbrev pub IsAmong : RawSetup → ℕ → ℕ → Owner → Type 0
IsAmong setup id n Nobody = (bytes : List ℕ) → functional_to_all setup id n bytes ≡ []
IsAmong setup id n (Tester who) = IsWithin n who × (id ≡ (ids_of setup who).request)
IsAmong setup id n Functional = (who : ℕ) × (IsWithin n who × (id ≡ (ids_of setup who).functional))

-- the frames of this identifier are its, among so many testers
pub record IsOwner (setup : RawSetup) (id n : ℕ) (owner : Owner) : Type 0 where
  pub among : IsAmong setup id n owner
  pub gives : (bytes : List ℕ)
      → flat_map (frame_to setup (Some (record { id = id; bytes = bytes }))) (counted_from 1 n)
      ≡ given setup id n owner bytes

-- these are the functional identifiers of so many testers, in order
pub record AreFunctional (setup : RawSetup) (ids : List ℕ) (n : ℕ) : Type 0 where
  pub many : length ids ≡ n
  pub each : (i id : ℕ) → slice_get ids i ≡ Some id → id ≡ (ids_of setup (i + 1)).functional

-- there is one for each identifier of 11 bits, and the others that are read are known
pub record AreRequestsOf (setup : RawSetup) (ids : RequestIds) : Type 0 where
  pub many : length ids.owners.items ≡ 2048
  pub known : ids.known.items ≡ known_ids setup
  pub functional : AreFunctional setup ids.functional.items (length setup.testers)
  pub each : (id : ℕ) (owner : Owner) → slice_get ids.owners.items id ≡ Some owner
      → IsOwner setup id (length setup.testers) owner
