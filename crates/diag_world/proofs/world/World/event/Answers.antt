use Rattle.std.proofs.Common.{length, ap, sym, ◌∙◌, inl, inr}
use Rattle.std.proofs.lemmas.Result.{on_err_weaker, on_ok_weaker}
use Rattle.diag_world.proofs.Standing.{channel_stands, stored, world_same, world_takes}
use Rattle.diag_world.proofs.Worlds.{set_cases}
use Rattle.diag_world.proofs.world.World.event.Goals as goal

pub take-requires : goal.take-requires
take-requires c = record {
  rest = c.self.invariant _ _ (stored c.self.inside.desk c.self.inside.channels.items c.index-index.result c.self.view_is c.requires.in_setup
      c.index-index.ensures.from_one
      c.index_mut.ensures.value);
}

pub invariant_of-self : goal.invariant_of-self
invariant_of-self c =
    let items = c.self.inside.channels.items in
    let i = c.index-index.result in
    λ j channel at. elim (set_cases items i j c.take.new.channel channel at) [
      | inl p ↦ rw p.1 c.take.ensures.rest
      | inr p ↦ c.self.invariant j channel p.1
    ]

pub returns-clause-ok : goal.returns-clause-ok
returns-clause-ok c = on_ok_weaker c.take.result (λ took setup M h.
    world_takes c.self.inside.desk c.self.inside.channels.items c.index-index.result c.self.view_is c.requires.in_setup c.index-index.ensures.from_one
    c.index_mut.ensures.value setup M c.args.event.now
    c.take.new.desk c.take.new.channel c.take.ensures.journal took h) c.take.ensures.ok

pub returns-clause-err : goal.returns-clause-err
returns-clause-err c = on_err_weaker c.take.result (λ same.
    world_same c.self.inside.desk c.self.inside.channels.items c.index-index.result c.self.view_is c.requires.in_setup c.index-index.ensures.from_one
    c.index_mut.ensures.value
    c.take.new.desk c.take.new.channel same.0 same.1) c.take.ensures.err

pub returns-clause-full : goal.returns-clause-full
returns-clause-full c is =
    let full = c.take.ensures.full is in (
      ap (λ w. length w.desk.journal) (sym c.self.view_is) ∙ full.0,
      λ setup M h. full.1 _ _ _ _ (channel_stands c.self.inside.desk c.self.inside.channels.items c.index-index.result c.self.view_is
          c.requires.in_setup c.index-index.ensures.from_one
          c.index_mut.ensures.value setup M
          c.take.ensures.journal h),
    )

pub returns-clause-first : goal.returns-clause-first
returns-clause-first c full setup M h =
    c.take.ensures.first (ap (λ w. length w.desk.journal) c.self.view_is ∙ full) _ _ _ _
    (channel_stands c.self.inside.desk c.self.inside.channels.items c.index-index.result c.self.view_is c.requires.in_setup c.index-index.ensures.from_one
    c.index_mut.ensures.value setup M
    c.take.ensures.journal h)
