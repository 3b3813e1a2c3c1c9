use Rattle.std.proofs.lemmas.Option.{same_Some, slice_get_read}
use Rattle.std.proofs.lemmas.List.{map-append}
use Rattle.std.specs.Prelude.{slice_get}
use Rattle.diag_exchange.specs.declared.open.Open.{Open}
use Rattle.diag_exchange.specs.Over.{Over}
use Rattle.std.proofs.Common.{true, false, ap₂, subst, Vec, Global, ◌≡◌, ◌<◌, ◌≤◌, ◌+◌, ◌++◌, ◌∷◌, [], List, Some, map, length, vec_len, vec_capacity, ap, sym, refl, ◌∙◌, append_assoc, arith}
use Rattle.std.specs.List.{remove}
use Rattle.diag_exchange.specs.Streaming.{told, is_done}
use Rattle.diag_exchange.proofs.Loops.{gone_gone_more, gone_stays_more, left_gone_more, left_stays_more, place_gone_more, place_stays_more, gone_all, left_all, left_at, left_within, left_of, gone_of, place_most}
use Rattle.diag_exchange.proofs.exchanges.take_out.Goals as goal
use Rattle.diag_exchange.proofs.exchanges.take_out.Goals.{then-is_done, else-is_done}

pub index-requires : goal.index-requires
index-requires c =
    let inv = c.loop-turn.invariant in
    let within : c.loop-turn._turn < length c.args.live.now.items = omega (arith, c.loop-turn-test.true, c.len-turn-end.ensures, c.args.live.now.ok) in
    let less = left_within (is_done c.args.asked) c.args.live.now.items c.loop-turn.live.items c.loop-turn._turn c.loop-turn.at inv.live inv.place within in
    omega (arith, less, c.loop-turn.live.ok)

pub remove-done-requires : goal.remove-done-requires
remove-done-requires c =
    let inv = c.loop-turn.invariant in
    let within : c.loop-turn._turn < length c.args.live.now.items = omega (arith, c.loop-turn-test.true, c.len-turn-end.ensures, c.args.live.now.ok) in
    let less = left_within (is_done c.args.asked) c.args.live.now.items c.loop-turn.live.items c.loop-turn._turn c.loop-turn.at inv.live inv.place within in
    omega (arith, less, c.loop-turn.live.ok)

pub overflow_add-at : goal.overflow_add-at
overflow_add-at c =
    let most = place_most (is_done c.args.asked) c.args.live.now.items c.loop-turn._turn in
    let bound : c.loop-turn.at ≤ c.loop-turn._turn = omega (arith, most, c.loop-turn.invariant.place) in
    omega (arith, bound, c.loop-turn-test.true, c.len-turn-end.type_inv)

pub loop-turn-preserved : goal.loop-turn-preserved
loop-turn-preserved c =
    let p = is_done c.args.asked in
    let inv = c.loop-turn.invariant in
    let old = c.args.live.now.items in
    let now = c.loop-turn.live.items in
    let i = c.loop-turn._turn in
    let at = c.loop-turn.at in
    let own : Open = c.index.result.now in
    let within : i < length old = omega (arith, c.loop-turn-test.true, c.len-turn-end.ensures, c.args.live.now.ok) in
    let less = left_within p old now i at inv.live inv.place within in
    let here : slice_get now at ≡ Some own = slice_get_read now (length now) at own refl less c.index.ensures in
    let there = left_at p old now i at own inv.live inv.place here in
    elim c.if-is_done.branch [
      | then-is_done w ↦ (
          let test : p own ≡ true = ap p (sym c.get.ensures) ∙ (sym c.is_done.ensures ∙ w.if-is_done.true) in
          let same : w.remove-done.result ≡ own = same_Some _ _
          (sym (slice_get_read now (length now) at w.remove-done.result refl less w.remove-done.ensures.value) ∙ here) in
          record {
            live = ap (λ v. v.items) w.live-is ∙ (w.remove-done.ensures.items ∙ (ap₂ remove inv.live inv.place ∙ left_gone_more p old i own there test));
            place = w.at-is ∙ (inv.place ∙ place_gone_more p old i own there test);
            over = ap (λ v. v.items) w.over-is ∙ (w.push_reserved.ensures.items
                ∙ (ap₂ (λ (xs : List Over) (x : Over). xs ++ x ∷ []) inv.over (w.exchange.ensures ∙ ap told same)
                ∙ (append_assoc c.args.over.now.items (map told (gone_of p i old)) (told own ∷ [])
                ∙ ap (λ xs. c.args.over.now.items ++ xs) (sym (map-append told (gone_of p i old) (own ∷ []))
                ∙ ap (map told) (sym (gone_gone_more p old i own there test))))));
            len = ap₂ (λ (v : Vec Over Global) (u : Vec Open Global). vec_len v + vec_len u) w.over-is w.live-is
                ∙ omega (arith, w.push_reserved.ensures.len, w.remove-done.ensures.len, inv.len);
            shorter =
                subst (λ (u : Vec Open Global). vec_len u ≤ vec_len c.args.live.now) (sym w.live-is)
                (omega (arith, w.remove-done.ensures.len, inv.shorter));
            capacity = ap vec_capacity w.over-is ∙ (w.push_reserved.ensures.capacity ∙ inv.capacity);
            room = ap vec_capacity w.live-is ∙ (w.remove-done.ensures.capacity ∙ inv.room);
          })
      | else-is_done w ↦ (
          let test : p own ≡ false = ap p (sym c.get.ensures) ∙ (sym c.is_done.ensures ∙ w.if-is_done.false) in
          record {
            live = ap (λ v. v.items) w.live-is ∙ (inv.live ∙ left_stays_more p old i own there test);
            place = w.at-is ∙ (ap (λ n. n + 1) inv.place ∙ place_stays_more p old i own there test);
            over = ap (λ v. v.items) w.over-is ∙ (inv.over ∙ ap (λ xs. c.args.over.now.items ++ map told xs) (sym (gone_stays_more p old i own there test)));
            len = ap₂ (λ (v : Vec Over Global) (u : Vec Open Global). vec_len v + vec_len u) w.over-is w.live-is ∙ inv.len;
            shorter = subst (λ (u : Vec Open Global). vec_len u ≤ vec_len c.args.live.now) (sym w.live-is) inv.shorter;
            capacity = ap vec_capacity w.over-is ∙ inv.capacity;
            room = ap vec_capacity w.live-is ∙ inv.room;
          })
    ]

pub returns-clause-live : goal.returns-clause-live
returns-clause-live c =
    let all : c.loop-turn._turn ≡ length c.args.live.now.items = omega
    (arith, c.loop-turn-test.false, c.loop-turn.auto._turn-end, c.len-turn-end.ensures, c.args.live.now.ok) in
    c.loop-turn.invariant.live ∙ (ap (λ i. left_of (is_done c.args.asked) i c.args.live.now.items) all ∙ left_all (is_done c.args.asked) c.args.live.now.items)

pub returns-clause-over : goal.returns-clause-over
returns-clause-over c =
    let all : c.loop-turn._turn ≡ length c.args.live.now.items = omega
    (arith, c.loop-turn-test.false, c.loop-turn.auto._turn-end, c.len-turn-end.ensures, c.args.live.now.ok) in
    c.loop-turn.invariant.over ∙ ap (λ w. c.args.over.now.items ++ map told w)
    (ap (λ i. gone_of (is_done c.args.asked) i c.args.live.now.items) all ∙ gone_all (is_done c.args.asked) c.args.live.now.items)
