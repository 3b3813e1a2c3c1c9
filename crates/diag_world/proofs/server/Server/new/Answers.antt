use Rattle.std.proofs.Common.{◌≡◌, ◌+◌, [], ◌∷◌, ◌++◌, length, rules, refl, ap, subst, sym, ◌∙◌, arith, inl, inr, length-append}
use Rattle.std.proofs.lemmas.Grind.{common_steps}
use Rattle.std.proofs.lemmas.List.{length-map}
use Rattle.diag_setup.specs.Setup.{link_of}
use Rattle.diag_world.specs.LazyPort.{IsLazy, caught_up}
use Rattle.diag_port.specs.Late.{pace_of}
use Rattle.diag_port.specs.Port.{PortState, port_of}
use Rattle.diag_port.specs.Standing.{PortStands}
use Rattle.diag_world.specs.declared.lazy_port.LazyPort.{LazyPort}
use Rattle.diag_world.proofs.Lazy.{seen_ports}
use Rattle.diag_world.proofs.Worlds.{push_cases, map_cases}
use Rattle.diag_world.proofs.server.Server.new.Goals as goal

pub loop-index-preserved : goal.loop-index-preserved
loop-index-preserved c =
    let inv = c.loop-index.invariant in
    let before = c.loop-index.ports.items in
    let one = c.new-in-loop-index.result in
    let grown : c.push_reserved.new.self.items ≡ before ++ one ∷ [] = search (rules, common_steps) in
    let fresh = c.new-in-loop-index.ensures in
    record {
      count = ap length grown ∙ omega (arith, length-append before (one ∷ []), inv.count);
      stand = λ i lazy at. elim (push_cases before i one lazy (rw grown at at)) [
        | inl p ↦ (
            let place : c.who-who.result ≡ i + 1 = omega (arith, p.0, inv.count, c.who-who.ensures) in
            subst (λ (x : LazyPort). PortStands (link_of c.args.setup.now (i + 1)) (pace_of c.args.setup.now) (port_of (caught_up 0 x)) [] []) (sym p.1)
            (subst (λ s. PortStands s (pace_of c.args.setup.now) (port_of (caught_up 0 one)) [] []) (c.link.ensures ∙ ap (link_of c.args.setup.now) place)
            (subst (λ pace. PortStands c.link.result pace (port_of (caught_up 0 one)) [] []) c.of.ensures fresh.stands)))
        | inr p ↦ inv.stand i lazy p
      ];
      lazy = λ i lazy at. elim (push_cases before i one lazy (rw grown at at)) [
        | inl p ↦ subst (λ x. IsLazy 0 x) (sym p.1) fresh.lazy
        | inr p ↦ inv.lazy i lazy p
      ];
      room = omega (arith, inv.room, c.push_reserved.ensures.capacity);
    }

pub push_reserved-requires : goal.push_reserved-requires
push_reserved-requires c = omega (arith, c.loop-index.invariant.room, c.loop-index.invariant.count, c.testers-index-end.ensures.same)

pub invariant_of-result : goal.invariant_of-result
invariant_of-result c = c.loop-index.invariant.lazy

pub returns : goal.returns
returns c =
    let ports = c.loop-index.ports.items in
    let seen = seen_ports 0 ports in
    record {
      legal = tt;
      ecu = c.in_ok-ecu.ensures;
      testers = length-map seen port_of ∙ (length-map ports (λ l. caught_up 0 l) ∙ omega (arith, c.loop-index.invariant.count, c.testers-index-end.ensures.same));
      run = refl;
      ports = λ i port at.
          let t = map_cases port_of seen i port at in
          let u = map_cases (λ l. caught_up 0 l) ports i t.0 t.1 in
          subst (λ (p : PortState). PortStands (link_of c.args.setup.now (i + 1)) (pace_of c.args.setup.now) p [] []) (sym (t.2 ∙ ap port_of u.2))
          (c.loop-index.invariant.stand i u.0 u.1);
    }
