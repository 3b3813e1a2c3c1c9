use Rattle.std.proofs.Common.{◌≡◌, ◌++◌, Some, get_or, length, refl, ap, subst, sym, ◌∙◌, arith}
use Rattle.std.proofs.lemmas.List.{append-nil, length-map}
use Rattle.std.proofs.lemmas.Option.{slice_get-map, slice_get_read}
use Rattle.std.proofs.lemmas.Result.{on_ok_weaker}
use Rattle.std.specs.List.Sorted.{IsNonDecreasingBy}
use Rattle.std.specs.Option.{option_map}
use Rattle.std.specs.Prelude.{slice_get}
use Rattle.diag_tp.specs.SentFrames.{SentList}
use Rattle.diag_tp.specs.declared.sent.Sent.{Sent}
use Rattle.diag_bus.specs.Filled.{AreFilled}
use Rattle.diag_bus.specs.Node.{lists_of}
use Rattle.diag_bus.specs.declared.filled.Filled.{Filled}
use Rattle.diag_bus.specs.declared.filled.Filled.TheVariants.{At}
use Rattle.diag_bus.proofs.Filling.{none_written, own_written}
use Rattle.diag_bus.proofs.replies.Replies.write.Goals as goal

pub returns-in-Nowhere-clause-ok : goal.returns-in-Nowhere-clause-ok
returns-in-Nowhere-clause-ok c =
    let text = c.args.text.now.items in
    let lists = lists_of c.args.drawn.now in
    sym (append-nil text) ∙ ap (λ w. text ++ w)
    (none_written c.args.setup.now c.args.clock.now.start lists (subst (λ (f : Filled). AreFilled f lists) c.in-Nowhere.is c.requires.drawn.filled))

filled : (c : goal.After-write_own-arg-in-At-1) → AreFilled (At c.in-At.index) (lists_of c.args.drawn.now)
filled c = subst (λ (f : Filled). AreFilled f (lists_of c.args.drawn.now)) c.in-At.is c.requires.drawn.filled

-- the list with the frames
there : (c : goal.After-write_own-arg-in-At-1) → (list : SentList) → list ≡ get_or c.args.drawn.now.lists.items c.in-At.index list
    → slice_get c.args.drawn.now.lists.items c.in-At.index ≡ Some list
there c list read =
    let drawn = c.args.drawn.now.lists.items in
    slice_get_read drawn (length drawn) c.in-At.index list refl
    (omega (arith, (filled c).0, length-map drawn (λ (f : SentList). f.items))) read

-- which are in order
up : (c : goal.After-write_own-arg-in-At-1) → IsNonDecreasingBy (λ (f : Sent). f.at) c.index-frames.result.now.items
up c =
    let both : Some c.index.result.now ≡ Some c.index-frames.result.now =
    sym (there c c.index.result.now c.index.ensures) ∙ there c c.index-frames.result.now c.index-frames.ensures in
    let same : c.index.result.now ≡ c.index-frames.result.now = cc in
    subst (λ (l : SentList). IsNonDecreasingBy (λ (f : Sent). f.at) l.items) same (c.is_in_order.ensures c.if-is_in_order.true)

pub write_own-requires : goal.write_own-requires
write_own-requires c =
    let items = λ (f : SentList). f.items in
    let list = c.index-frames.result.now in
    let found : slice_get (lists_of c.args.drawn.now) c.in-At.index ≡ Some list.items =
    slice_get-map items c.args.drawn.now.lists.items c.in-At.index ∙ ap (option_map items) (there c list c.index-frames.ensures) in
    record {
      names = c.requires.names;
      tester = omega (arith, (filled c).0, length-map c.args.drawn.now.lists.items items, c.requires.drawn.lists);
      start = c.requires.drawn.start;
      sent = c.requires.drawn.sent c.in-At.index list.items found;
    }

pub returns-in-At-clause-ok : goal.returns-in-At-clause-ok
returns-in-At-clause-ok c =
    let drawn = c.args.drawn.now in
    let setup = c.args.setup.now in
    let start = c.args.clock.now.start in
    let text = c.args.text.now.items in
    let list = c.index-frames.result.now in
    let index = c.in-At.index in
    on_ok_weaker c.write_own.result (λ wrote.
    wrote ∙ ap (λ w. text ++ w) (own_written setup start index drawn.lists.items list (there c.before.before list c.index-frames.ensures)
    (up c.before.before) (filled c.before.before)))
    c.write_own.ensures.ok
