-- `into_loose` tests the flag, and hands on what the handle owns.
use Rattle.std.proofs.Common.{List, [], ◌∷◌, ◌++◌, refl, sym, subst, Some, None}
use lib.Dec.{lit<}
use mir.Val.{Val, of_list, has_ty}
use base.Logic.{SProp, ent, id⊢}
use prog.Wp.{WpFn}
use types.Kit.{‵, raw, ◌⊛◌, at_ret, ◌$◌, ◌∵◌, !, qed, move, keep, split, fsplit, fjoin, suffices, frame, use0, use1, done}
use types.Match.{live}
use types.Run.{stop, fld, of_opd, lit, no_more, and_then, first, branches, skips, exec, returns, returns_within, enter}
use types.ByLocal.{alloc_all, pass_all, free_all, look_at, get, get_in, sets, env}
use types.Part.{sub, whole, agg}
use contract.Running.{tables}
use denote.Exit.{yes}
use denote.RattleType.{owns}
use denote.Param.{layout}
use denote.Signature.{types_at, plain}
use denote.RawPtr.{ptr_val}
use denote.Steps.{nothing}
use denote.Triple.Entry.{alive}
use denote.Triple.Walked.{Stays, stay_dropped, walk_of, says, ends_at}
use Rattle.core.proofs.alloc.Calls.{Goes-blank}
use Rattle.core.proofs.option.Made.{Some-of, none_of}
use Rattle.core.specs.contracts.option.Option as option
use Rattle.std.proofs.raw_atomic.Walks.{proved_at}
use Rattle.std_alloc.proofs.ResultValues.{and_tt}
use Rattle.uds_unit.proofs.Values.{both}
use Rattle.uds_unit.proofs.Handles.{L, Handle, three, three_good, two_good, ptr_good, handle_out, open_out, closed_out, loose_at}
use Rattle.uds_unit.specs.contracts.handle.Handle.into_loose as f
use Rattle.uds_unit.proofs.handle.Handle.into_loose.Statement.{statement}
use Rattle.uds_unit.proofs.handle.Handle.into_loose.Code as code

abbrev stayed : Stays f.ended.signature.params f.ended.kept
stayed = (stay_dropped (plain (λ _. Handle)) yes, tt)

pub into_loose_spec : {M : Type 1} → statement M
into_loose_spec 𝓤 𝓛 𝓜 𝓡 wired =
    let H = 𝓛.H in let 𝓣 = tables 𝓤 H 𝓜 𝓡 𝓡.env in let c = f.clauses 𝓛 𝓜.mem 𝓡.returns in let fn = code.function in
    proved_at 𝓛 f.ended stayed c 𝓜 𝓡 (Goes-blank 𝓛 0 (plain (λ _. Handle)) yes (λ κs x w. tt), tt) f.Key.name fn (code.unfolded 𝓤 H 𝓜 𝓡 wired) (λ z are.
    let d = z.0.3.0 in let Post : Val → SProp 𝓤 = (walk_of 𝓛 f.ended stayed c).post z in let Run : List Val → SProp 𝓤 = λ ws. WpFn 𝓤 H 𝓣.C 𝓣.Λ fn ws Post in
    qed 𝓛 ((raw (alive 𝓛 f.ended.signature z.0.0 z.0.1) ⊛ ‵ (owns (types_at f.ended.signature.params z.0.0) z.0.3 z.0.4)) ∷ raw
    ((c z.0.0 z.0.3).requires z.1) ∷ []) ∵
    split ! $ move ! (1 ∷ []) $ fsplit ! $ handle_out ! d z.0.4.0 (λ h ws fits.
    -- [the allocator; what the flag says; true; the tokens; what is required]
    let w = three d.is_open d.at h in let v = both (ptr_val d.at) h in let good = two_good d.at h fits in
    suffices ! (Run (w ∷ [])) (subst (λ (us : List Val). ent 𝓤 (Run (w ∷ [])) (Run us)) (sym (λ i. ws i ++ [])) (id⊢ 𝓤 (Run (w ∷ [])))) $
    enter ! 𝓣.C 𝓣.Λ fn (w ∷ []) Post $ alloc_all ! (λ l. pass_all ! refl (three_good d.is_open d.at h fits, tt) $
    sets ! (of_opd ! (get_in ! (fld ! refl (stop !)) (sub ! 0 refl (whole !)))) refl (tt, tt) $
    sets ! (of_opd ! (get_in ! (fld ! refl (stop !)) (sub ! 1 refl (whole !)))) refl (ptr_good d.at) $
    sets ! (of_opd ! (get_in ! (fld ! refl (stop !)) (sub ! 2 refl (whole !)))) refl fits $
    sets ! (of_opd ! (get ! refl)) refl (tt, tt) $
    move ! (1 ∷ 0 ∷ []) $
    first ! $ branches ! (get ! refl)
    (λ is. open_out ! d.is_open d.alloc d.at d.unit is (λ x ex.
    sets ! (of_opd ! (get ! refl)) refl (ptr_good d.at) $
    sets ! (agg ! (and_then ! (get ! refl) (and_then ! (get ! refl) (no_more !)))) refl good $
    sets ! (agg ! (and_then ! (lit ! tt) (and_then ! (get ! refl) (no_more !)))) refl (
      and_tt (has_ty (layout L) v) good.0,
      (
        record { fits = lit< tt },
        (good.1, tt),
      ),
    ) $
    returns_within ! Post refl (look_at ! 0 refl) $ free_all ! refl $
    move ! (1 ∷ 0 ∷ 3 ∷ []) $ loose_at ! d.at d.alloc x h $
    let r : L.Denot = record { at = d.at; alloc = d.alloc; value = x } in
    use1 𝓛 (‵ ((option.the_row L).own_val (Some r) (live 1 (of_list (v ∷ [])) ∷ []))) (Some-of 𝓛 L r v) $
    suffices ! _ (ends_at 𝓛 f.ended stayed c z (live 1 (of_list (v ∷ []))) (Some r) (tt, tt) (tt, tt)) $ says ! (ex, tt) $
    move ! (1 ∷ []) $ frame ! $ nothing ! $ nothing ! $ fjoin ! $ keep ! (0 ∷ 1 ∷ []) $ done !))
    (λ isnt. closed_out ! d.is_open d.alloc d.at d.unit isnt (λ en.
    skips ! $ exec ! 𝓣.C 𝓣.Λ (env code.Mir.locals l) code.Mir.t-6 (at_ret _ Post) $
    sets ! (agg ! (and_then ! (lit ! tt) (no_more !))) refl (tt, (record { fits = lit< tt }, tt)) $
    returns ! (look_at ! 0 refl) $ free_all ! refl $ keep ! (2 ∷ []) $
    use0 𝓛 (‵ ((option.the_row L).own_val None (live 0 (of_list []) ∷ []))) (none_of 𝓛 L) $
    suffices ! _ (ends_at 𝓛 f.ended stayed c z (live 0 (of_list [])) None (tt, tt) (tt, tt)) $ says ! (tt, en) $
    move ! (1 ∷ []) $ frame ! $ nothing ! $ nothing ! $ fjoin ! $ done !)))))
