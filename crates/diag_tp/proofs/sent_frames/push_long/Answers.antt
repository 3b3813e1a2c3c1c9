use Rattle.std.proofs.Common.{◌≡◌, [], ◌∷◌, ◌++◌, length, List, ℕ, Option, Some, None, ap, ap₂, refl, subst, sym, ◌∙◌, arith}
use Rattle.std.proofs.Math.ListN.{get_or, set}
use Rattle.std.proofs.Math.Seq.{get_or-append_seam, set-append_seam}
use Rattle.std.specs.Prelude.{IfSome, IsNone, IsSome}
use Rattle.diag_can.specs.declared.frame.Frame.{Frame}
use Rattle.diag_tp.specs.declared.sent.Sent.{Sent}
use Rattle.diag_tp.specs.Link.{HandsOut}
use Rattle.diag_tp.specs.State.{LinkState}
use Rattle.diag_tp.proofs.sent_frames.push_long.Goals as goal

abbrev frame_of : List ℕ → ℕ → Frame
frame_of bytes id = record { id = id; bytes = bytes }

-- the frame that a link has handed out, by the identifier that it has for all
handed : (link next : LinkState) (bytes : List ℕ) (response id : ℕ) (r : Option ℕ) → IfSome r (λ i. HandsOut link next (frame_of bytes i))
    → IfSome r (λ i. i ≡ response) → (IsNone r → ⊥) → id ≡ response → HandsOut link next (frame_of bytes id)
handed link next bytes response id None goes is some same = absurd (some refl)
handed link next bytes response id (Some i) goes is some same = subst (λ k. HandsOut link next (frame_of bytes k)) (is ∙ sym same) goes

found : (r : Option ℕ) → (IsNone r → ⊥) → IsSome r
found None some = absurd (some refl)
found (Some i) some = refl

pub returns-clause-took : goal.returns-clause-took
returns-clause-took c = λ _.
    let old = c.args.list.now.items in
    let inside = c.behind-list.inside in
    let bytes = c.next_long_frame-id.new.bytes in
    let handing = c.next_long_frame-id.ensures in
    let due : IsNone c.next_long_frame-id.result → ⊥ = λ none. cc (c.is_drained.ensures.pending.1 (handing.none.0 none), c.if-is_drained.false) in
    let fewer = handing.fewer (found c.next_long_frame-id.result due) in
    let empty : Sent = record { at = c.args.at; frame = record { id = c.link.inside.setup.ids.response; bytes = [] } } in
    let filled : Sent = record { at = inside.at; frame = record { id = inside.id; bytes = bytes } } in
    let pushed : c.push_reserved.new.self.items ≡ old ++ empty ∷ [] = c.push_reserved.ensures.items
    ∙ ap (λ (none : List ℕ). old ++ record { at = c.args.at; frame = record { id = c.link.inside.setup.ids.response; bytes = none } } ∷ []) c.new.ensures in
    let index : c.len-index.result ≡ length old = omega (arith, c.len-index.ensures) in
    let now = c.index_mut.result.now in
    let same = c.behind-list.view_is ∙ (c.index_mut.ensures.value
    ∙ (ap₂ (λ (items : List Sent) k. get_or items k now) pushed index ∙ get_or-append_seam old empty [] now)) in
    record {
      hands = record {
        frame = record { id = inside.id; bytes = bytes };
        grown = ap₂ (λ (items : List Sent) k. set items k filled) pushed index ∙ (set-append_seam old empty [] filled
            ∙ ap (λ t. old ++ record { at = t; frame = record { id = inside.id; bytes = bytes } } ∷ []) (ap (λ (s : Sent). s.at) same));
        goes = handed c.args.link.now.state c.next_long_frame-id.new.self.state bytes c.args.link.now.state.setup.ids.response inside.id
            c.next_long_frame-id.result handing.next handing.id due
            (ap (λ (s : Sent). s.frame.id) same ∙ ap (λ l. l.state.setup.ids.response) c.link.view_is);
      };
      pending = fewer.0;
      unsent = fewer.1;
      reply_rooms = handing.reply_rooms;
      time = handing.time;
      setup = handing.setup;
    }
