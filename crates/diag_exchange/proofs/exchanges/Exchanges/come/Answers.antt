use Rattle.std.proofs.Common.{◌≡◌, ◌++◌, ◌∷◌, [], Bool, true, false, List, Option, Some, None, map, Vec, Global, ap, ap₂, sym, refl, ◌∙◌, append_assoc}
use Rattle.std.proofs.lemmas.List.{append-nil}
use Rattle.std.proofs.lemmas.Option.{same_Some}
use Rattle.std.specs.List.{filter, list_any}
use Rattle.std.specs.Prelude.{if◌then◌else◌}
use Rattle.diag_exchange.specs.Asking.{completes}
use Rattle.diag_exchange.specs.Streaming.{finish, goes_on, hears_it, is_done, told}
use Rattle.diag_exchange.specs.declared.happening.Happening.TheVariants.{Came}
use Rattle.diag_exchange.specs.declared.happening.Heard.{Heard}
use Rattle.diag_exchange.specs.Over.{Over, Unasked}
use Rattle.diag_exchange.specs.declared.happening.Start.{Start}
use Rattle.diag_exchange.proofs.Taking.{took_as, unasked_of}
use Rattle.diag_exchange.proofs.exchanges.Exchanges.come.Goals as goal
use Rattle.diag_exchange.proofs.exchanges.Exchanges.come.Goals.{in-Some-unasked, in_default-unasked}

abbrev unasked_if : Bool → Heard → List Over
unasked_if b m = if b then [] else Unasked m ∷ []

not_asked : (t : Bool) (m : Heard) (n : Over) → Some n ≡ (if t then None else Some (Unasked m)) → unasked_if t m ≡ n ∷ []
not_asked true m n e = cc
not_asked false m n e = ap (λ x. x ∷ []) (sym (same_Some _ _ e))

is_asked_for : (t : Bool) (m : Heard) (o : Option Over) → ((n : Over) → o ≡ Some n → ⊥) → o ≡ (if t then None else Some (Unasked m)) → unasked_if t m ≡ []
is_asked_for true m o f e = refl
is_asked_for false m o f e = absurd (f (Unasked m) e)

pub returns-clause-ok : goal.returns-clause-ok
returns-clause-ok c = λ hs s.
    let es = c.args.self.now.live.items in
    let now = c.args.self.now.coming in
    let start : Start = c.in-Some.start in
    let m : Heard = record { start = start; bytes = c.args.bytes } in
    let h = Came c.args.bytes in
    let is : now ≡ Some start = c.in-Some.is in
    let moved : c.answer.new.live.items ≡ finish (completes now h) es =
    c.in_ok-unasked.ensures.ok ∙ ap (λ (n : Option Start). finish (completes n h) es) (sym is) in
    let gone : List Over = map told (filter (is_done false) (finish (completes now h) es)) in
    let handed : c.take_out.new.over.items ≡ c.args.over.now.items ++ gone =
    c.take_out.ensures.over ∙ ap₂ (λ (xs ys : List Over). xs ++ ys) c.reserve.ensures.items (ap (λ xs. map told (filter (is_done false) xs)) moved) in
    let asked : Bool = list_any hears_it es in
    let has : c.in_ok-unasked.unasked ≡ (if asked then None else Some (Unasked m)) = c.in_ok-unasked.ensures.unasked in
    let last : c.match-unasked.over.items ≡ c.take_out.new.over.items ++ unasked_if asked m = elim c.match-unasked.branch [
      | in-Some-unasked w ↦ (
          let given : Some w.in-Some-unasked.unasked ≡ (if asked then None else Some (Unasked m)) = sym w.in-Some-unasked.is ∙ has in
          ap (λ (v : Vec Over Global). v.items) w.over-is ∙ (w.push_reserved.ensures.items
          ∙ ap (λ (ys : List Over). c.take_out.new.over.items ++ ys) (sym (not_asked asked m w.in-Some-unasked.unasked given))))
      | in_default-unasked w ↦ (
          ap (λ (v : Vec Over Global). v.items) w.over-is ∙ (sym (append-nil c.take_out.new.over.items)
          ∙ ap (λ (ys : List Over). c.take_out.new.over.items ++ ys) (sym (is_asked_for asked m c.in_ok-unasked.unasked w.in_default-unasked.not-Some has))))
    ] in
    took_as es now h c.take_out.new.live.items None c.args.over.now.items c.match-unasked.over.items tt hs s
    (c.take_out.ensures.live ∙ ap (filter (goes_on false)) moved)
    refl
    (last ∙ (ap₂ (λ (xs ys : List Over). xs ++ ys) handed (sym (ap (λ (n : Option Start). unasked_of es (completes n h)) is))
    ∙ append_assoc c.args.over.now.items gone (unasked_of es (completes now h))))
