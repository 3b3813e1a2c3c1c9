use Rattle.std.proofs.Common.{◌+◌, ◌<◌, ◌≤◌, ◌++◌, ◌∷◌, [], Some, length, refl, ◌∙◌, arith, rules}
use Rattle.std.proofs.Math.Seq.{map-set_same}
use Rattle.std.proofs.lemmas.List.Elements.{All-push}
use Rattle.std.proofs.lemmas.List.{drop-set-lt, length-set, take_all}
use Rattle.std.proofs.lemmas.Grind.{drop_more_same}
use Rattle.diag_text.specs.declared.fault.RunFault.TheVariants.{FileLong, Memory, Read}
use Rattle.diag_run.proofs.Devices.{one_read, read_at}
use Rattle.diag_run.proofs.Reading.{all_within, ends_at, next_begun, one_read_more, one_taken_more, others_begun}
use Rattle.diag_run.proofs.files.read_each.Goals as goal

pub read_into-requires-clause-taken : goal.read_into-requires-clause-taken
read_into-requires-clause-taken g c = (
  [],
  next_begun g.P.TakePieces.took c.loop-index.takers c.loop-index.index _ (omega (arith, c.loop-index.invariant.takers, c.loop-index.invariant.same))
      c.loop-index.invariant.begun,
)

pub loop-index-preserved : goal.loop-index-preserved
loop-index-preserved g c =
    let so_far = c.loop-index.invariant in
    let read = c.in-Ok.ensures.read in
    let index = c.loop-index.index in
    let lt : index < length c.loop-index.takers = omega (arith, so_far.takers, so_far.same) in
    record {
      same = length-set _ index _ ∙ so_far.same;
      takers = length-set _ index _ ∙ so_far.takers;
      rest = drop-set-lt (index + 1) c.loop-index.files index _ (omega arith) ∙ drop_more_same _ _ index so_far.rest;
      texts = so_far.texts ++ read.0 ∷ [];
      each = one_read_more g.R.Source.remaining c.args.files.now c.loop-index.files index _ _ _ so_far.same so_far.rest _ (omega (arith, so_far.same))
          so_far.each (read.1, c.in-Ok.ensures.end);
      within = All-push (λ text. length text ≤ c.args.limit) _ read.0 so_far.within read.2.0;
      taken = one_taken_more g.P.TakePieces.took c.loop-index.takers index _ so_far.texts read.0 lt so_far.taken
          (read.2.1 [] (next_begun g.P.TakePieces.took c.loop-index.takers index _ lt so_far.begun));
      begun = others_begun g.P.TakePieces.took c.loop-index.takers index _ c.read_into.new.taker lt so_far.begun;
      tells = one_read g.R.Source.failed g.R.Source.sound c.args.files.now c.loop-index.files index c.read_into.new.reader _ so_far.same so_far.rest
          (omega (arith, so_far.same)) so_far.tells (λ is. cc, λ other. c.in-Ok.ensures.sound (λ is. cc));
      aims = map-set_same g.P.TakePieces.aim c.loop-index.takers index _ _ c.in-Ok.ensures.aim ∙ so_far.aims;
    }

pub returns-clause-read : goal.returns-clause-read
returns-clause-read g c =
    let so_far = c.loop-index.invariant in
    let old = take_all c.loop-index.index c.args.files.now (omega (arith, so_far.same)) in
    let new = take_all c.loop-index.index c.loop-index.files (omega arith) in
    let takers = take_all c.loop-index.index c.loop-index.takers (omega (arith, so_far.takers, so_far.same)) in
    record {
      texts = so_far.texts;
      each = rw (old, new) at so_far.each;
      within = all_within c.args.limit 1 so_far.texts so_far.within;
      holds = rw takers at so_far.taken;
    }

pub returns-in-Err-Long-clause-ends : goal.returns-in-Err-Long-clause-ends
returns-in-Err-Long-clause-ends g c =
    ends_at g.R.Source.remaining c.args.limit c.args.files.now c.loop-index.files c.loop-index.index _ _ c.loop-index.invariant.same
    c.loop-index.invariant.rest _ (omega (arith, c.loop-index.invariant.same)) c.loop-index.invariant.each c.loop-index.invariant.within _
    (c.in-Err-Long.ensures.seen (search rules))

pub returns-in-Err-Device-clause-ends : goal.returns-in-Err-Device-clause-ends
returns-in-Err-Device-clause-ends g c =
    ends_at g.R.Source.remaining c.args.limit c.args.files.now c.loop-index.files c.loop-index.index _ _ c.loop-index.invariant.same
    c.loop-index.invariant.rest _ (omega (arith, c.loop-index.invariant.same)) c.loop-index.invariant.each c.loop-index.invariant.within _
    (c.in-Err-Device.ensures.unread (search rules))

pub returns-in-Err-Memory-clause-ends : goal.returns-in-Err-Memory-clause-ends
returns-in-Err-Memory-clause-ends g c = (
  c.loop-index.index + 1,
  ends_at g.R.Source.remaining c.args.limit c.args.files.now c.loop-index.files c.loop-index.index _ _ c.loop-index.invariant.same
      c.loop-index.invariant.rest _ (omega (arith, c.loop-index.invariant.same)) c.loop-index.invariant.each c.loop-index.invariant.within _
      (c.in-Err-Memory.ensures.refused (search rules)),
)

pub returns-clause-tells : goal.returns-clause-tells
returns-clause-tells g c =
    let so_far = c.loop-index.invariant in
    let old = take_all c.loop-index.index c.args.files.now (omega (arith, so_far.same)) in
    let new = take_all c.loop-index.index c.loop-index.files (omega arith) in
    rw (old, new) at so_far.tells

pub returns-in-Err-Long-clause-tells : goal.returns-in-Err-Long-clause-tells
returns-in-Err-Long-clause-tells g c =
    read_at g.R.Source.failed g.R.Source.sound c.args.files.now c.loop-index.files c.loop-index.index c.read_into.new.reader _ c.loop-index.invariant.same
    c.loop-index.invariant.rest (omega (arith, c.loop-index.invariant.same)) c.loop-index.invariant.tells (Some (FileLong (c.loop-index.index + 1))) (λ m is. cc)
    (λ is. cc, λ other. c.in-Err-Long.ensures.sound (λ is. cc))

pub returns-in-Err-Device-clause-tells : goal.returns-in-Err-Device-clause-tells
returns-in-Err-Device-clause-tells g c =
    read_at g.R.Source.failed g.R.Source.sound c.args.files.now c.loop-index.files c.loop-index.index c.read_into.new.reader _ c.loop-index.invariant.same
    c.loop-index.invariant.rest (omega (arith, c.loop-index.invariant.same)) c.loop-index.invariant.tells (Some (Read (c.loop-index.index + 1))) (λ m is. cc)
    (λ is. c.in-Err-Device.ensures.failed (search rules), λ other. c.in-Err-Device.ensures.sound (λ _. other refl))

pub returns-in-Err-Memory-clause-tells : goal.returns-in-Err-Memory-clause-tells
returns-in-Err-Memory-clause-tells g c =
    read_at g.R.Source.failed g.R.Source.sound c.args.files.now c.loop-index.files c.loop-index.index c.read_into.new.reader _ c.loop-index.invariant.same
    c.loop-index.invariant.rest (omega (arith, c.loop-index.invariant.same)) c.loop-index.invariant.tells (Some (Memory)) (λ m is. cc)
    (λ is. cc, λ other. c.in-Err-Memory.ensures.sound (λ is. cc))

pub returns-in-Err-Memory-clause-memory : goal.returns-in-Err-Memory-clause-memory
returns-in-Err-Memory-clause-memory g c = λ is. (c.read_into.new.taker, c.in-Err-Memory.ensures.memory (search rules))
