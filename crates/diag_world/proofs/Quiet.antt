-- The least quiet time of the ports.
use Rattle.std.proofs.Common.{◌≡◌, ◌+◌, ℕ, Some, min, List, [], ◌∷◌, ◌++◌, map, take, ap, ◌∙◌, arith}
use Rattle.std.proofs.lemmas.List.{map-append, take_more}
use Rattle.std.proofs.lemmas.Option.{get_or_from_slice_get, slice_get_within}
use Rattle.std.specs.Prelude.{slice_get}
use Rattle.diag_port.specs.declared.port.Port.{Port}
use Rattle.diag_port.specs.Port.{PortState, port_of, port_quiet}
use Rattle.diag_world.specs.Server.{quiet_of}

quiet_push : (ports : List PortState) (port : PortState) → quiet_of (ports ++ port ∷ []) ≡ min (quiet_of ports) (port_quiet port)
quiet_push [] port = omega arith
quiet_push (first ∷ ports) port = omega (arith, quiet_push ports port)

-- that of one port more
pub quiet_more : (ports : List Port) (i : ℕ) (port : Port) → slice_get ports i ≡ Some port
    → quiet_of (map port_of (take (i + 1) ports)) ≡ min (quiet_of (map port_of (take i ports))) (port_quiet (port_of port))
quiet_more ports i port at =
    let grown = take_more ports i port (slice_get_within ports i port at) ∙ ap (λ x. take i ports ++ x ∷ []) (get_or_from_slice_get ports i port port at) in
    ap (λ xs. quiet_of (map port_of xs)) grown ∙ (ap quiet_of (map-append port_of (take i ports) (port ∷ [])) ∙ quiet_push (map port_of (take i ports)) (port_of port))
