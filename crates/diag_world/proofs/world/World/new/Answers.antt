use Rattle.std.proofs.Common.{◌≡◌, ◌+◌, [], ◌∷◌, ◌++◌, length, map, rules, ap, sym, ◌∙◌, arith, inl, inr, length-append}
use Rattle.std.proofs.lemmas.Grind.{common_steps}
use Rattle.std.proofs.lemmas.List.{length-map, map-append}
use Rattle.diag_world.specs.Channel.{channel_of}
use Rattle.diag_world.proofs.Standing.{stands_begin}
use Rattle.diag_world.proofs.Worlds.{push_cases}
use Rattle.diag_world.proofs.world.World.new.Goals as goal

pub loop-index-preserved : goal.loop-index-preserved
loop-index-preserved c =
    let inv = c.loop-index.invariant in
    let before = c.loop-index.channels.items in
    let one = c.new-in-loop-index.result in
    let many = length-map before channel_of in
    let grown : c.push_reserved.new.self.items ≡ before ++ one ∷ [] = search (rules, common_steps) in
    let seen = ap (map channel_of) grown ∙ map-append channel_of before (one ∷ []) in
    let place = c.who-who.ensures in
    record {
      count = ap length grown ∙ omega (arith, length-append before (one ∷ []), inv.count);
      stand = λ i channel at. elim (push_cases (map channel_of before) i (channel_of one) channel (rw seen at at)) [
        | inl p ↦ (
            let here : i + 1 ≡ c.who-who.result = omega (arith, p.0, many, inv.count, place) in
            rw (p.1, here, sym c.link.ensures, sym c.of.ensures) c.new-in-loop-index.ensures.stands)
        | inr p ↦ inv.stand i channel p
      ];
      rest = λ i channel at. elim (push_cases before i one channel (rw grown at at)) [
        | inl p ↦ rw p.1 c.new-in-loop-index.ensures.rest
        | inr p ↦ inv.rest i channel p
      ];
      room = omega (arith, inv.room, c.push_reserved.ensures.capacity);
    }

pub push_reserved-requires : goal.push_reserved-requires
push_reserved-requires c = omega (arith, c.loop-index.invariant.room, c.loop-index.invariant.count, c.testers-index-end.ensures.same)

pub returns : goal.returns
returns c =
    let channels = c.loop-index.channels.items in
    rw c.in_ok-desk.ensures (stands_begin c.args.setup.now (map channel_of channels)
    (length-map channels channel_of ∙ omega (arith, c.loop-index.invariant.count, c.testers-index-end.ensures.same)) c.loop-index.invariant.stand)
