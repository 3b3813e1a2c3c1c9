-- The machine values of a `Handle`, and what it owns by its flag. Assumes `Logic`.
use Rattle.std.proofs.Common.{◌≡◌, List, [], ◌∷◌, ◌++◌, refl, ◌∙◌, Bool, true, false, Option, Some, None}
use mathlib.Core.Bool.{not}
use lib.Dec.{T}
use seplogic.Ra.Ura.{Ura}
use mir.Syntax.{impl, tnil, dnil, ty_ptr}
use mir.Val.{Val, vbool, vstruct, vcons, vnil, of_list, has_ty}
use base.Logic.{never_e}
use base.Fml.{ftrue}
use types.Logic.{Logic}
use types.Kit.{Item, Goal, Seq, Step, step, ‵, ◌$◌, given, learn, use1, move, drop, fsplit, fjoin, fpack, fpick, feq_i, feq_l}
use denote.RattleType.{RattleType, Valss}
use denote.Builtin.{RawPtr}
use denote.RawPtr.{Ptr, ptr_val, block_ptr, null_ptr}
use denote.Steps.{nothing}
use denote.Param.{layout}
use denote.Struct.Struct.{within}
use denote.Struct.Owning.{shape, to}
use Rattle.core.proofs.alloc.Calls.{Al, handle_tells}
use Rattle.core.proofs.cell.Inside.{Good}
use Rattle.std_alloc.specs.Box.Ownership.{box_owns}
use Rattle.std.specs.contracts.alloc.Global as global
use Rattle.std.proofs.alloc.Global.TheLaws as global_laws
use Rattle.std.specs.contracts.impls.GlobalAllocator.TheImpl.{ghosts}
use Rattle.uds_unit.specs.contracts.device.Device as device
use Rattle.uds_unit.specs.contracts.loose.Loose as loose
use Rattle.uds_unit.specs.contracts.handle.Handle as handle
use Rattle.uds_unit.specs.Handle.{handle_owns}
use Rattle.uds_unit.proofs.Values.{both, both_tt}

abbrev pub R : RattleType
R = device.the_row

abbrev pub Z : RattleType
Z = global.the_row

abbrev pub L : RattleType
L = loose.the_row R Z ghosts

abbrev pub Handle : RattleType
Handle = handle.the_row

abbrev pub al : Al
al = record { row = Z; laws = global_laws.the_row_laws; g = ghosts; d = impl [] tnil dnil; drops = impl [] tnil dnil }

abbrev pub three : Bool → Ptr → Val → Val
three y p h = vstruct (vcons (vbool y) (vcons (ptr_val p) (vcons h vnil)))

pub ptr_good : (p : Ptr) → Good ty_ptr (ptr_val p)
ptr_good (block_ptr b o) = (tt, tt)
ptr_good null_ptr = (tt, record { fits = lib.Dec.lit< tt })

pub two_good : (p : Ptr) (h : Val) → Good (layout Z) h → Good (layout L) (both (ptr_val p) h)
two_good p h fits = (both_tt (has_ty ty_ptr (ptr_val p)) (has_ty (layout Z) h) (ptr_good p).0 fits.0, ((ptr_good p).1, (fits.1, tt)))

pub three_good : (y : Bool) (p : Ptr) (h : Val) → Good (layout Z) h → Good (layout Handle) (three y p h)
three_good y p h fits = (both_tt (has_ty ty_ptr (ptr_val p)) (has_ty (layout Z) h) (ptr_good p).0 fits.0, (tt, ((ptr_good p).1, (fits.1, tt))))

module _ {M : Type 1} {𝓤 : Ura M} {𝓛 : Logic 𝓤} {K : Type 0} {Γ : List (Item 𝓤)} {G : Goal 𝓤 𝓛.H} where
  pub handle_out : K → (d : Handle.Denot) (vs : List Val)
      → ((h : Val) → vs ≡ three d.is_open d.at h ∷ [] → Good (layout Z) h
      → Seq K 𝓛 (‵ (Z.own_val d.alloc (h ∷ [])) ∷ ‵ (handle_owns R d.alloc d.is_open d.at d.unit) ∷ Γ) G)
      → Seq K 𝓛 (‵ (Handle.own_val d vs) ∷ Γ) G
  handle_out t d vs k =
      fsplit t $ fpick t (λ vss. fsplit t $ feq_l t (λ ev. fsplit t $ feq_l t (λ ey. fsplit t $ feq_l t (λ ep. fsplit t $
      handle_tells al t d.alloc vss.1.1.0 (λ h ea fits. move t (1 ∷ []) $ drop t $
      k h (ev ∙ (λ i. vstruct (of_list (ey i ++ (ep i ++ (ea i ++ [])))) ∷ [])) fits)))))

  pub handle_in : K → (y : Bool) (p : Ptr) (a : Z.Denot) (m : Option R.Denot) (h : Val)
      → Step K 𝓛 (‵ (Handle.own_val (record { is_open = y; at = p; alloc = a; unit = m }) (three y p h ∷ [])) ∷ Γ) G (‵ (Z.own_val a (h ∷ [])) ∷
      ‵ (handle_owns R a y p m) ∷ Γ) G
  handle_in t y p a m h = step (λ s. let w : Val = three y p h in
      nothing t $ move t (1 ∷ 0 ∷ []) $ fjoin t $ feq_i t (List Val) (ptr_val p ∷ []) (ptr_val p ∷ []) refl $ fjoin t $
      feq_i t (List Val) (vbool y ∷ []) (vbool y ∷ []) refl $ fjoin t $
      feq_i t (List Val) (w ∷ []) (w ∷ []) refl $ fjoin t $
      fpack t (Valss (shape handle.the_type).fields) (within (shape handle.the_type) (to handle.the_type
      (record { is_open = y; at = p; alloc = a; unit = m })) (w ∷ [])) (vbool y ∷ [], (ptr_val p ∷ [], (h ∷ [], tt))) $ fjoin t $ s)

  pub loose_at : K → (p : Ptr) (a : Z.Denot) (x : R.Denot) (h : Val)
      → Step K 𝓛 (‵ (L.own_val (record { at = p; alloc = a; value = x }) (both (ptr_val p) h ∷ [])) ∷ Γ) G (‵ (Z.own_val a (h ∷ [])) ∷
      ‵ (box_owns (ghosts.dealloc_token a) R p x) ∷ Γ) G
  loose_at t p a x h = step (λ s. let w : Val = both (ptr_val p) h in
      nothing t $ move t (1 ∷ 0 ∷ []) $ fjoin t $ feq_i t (List Val) (ptr_val p ∷ []) (ptr_val p ∷ []) refl $ fjoin t $
      feq_i t (List Val) (w ∷ []) (w ∷ []) refl $ fjoin t $
      fpack t (Valss (RawPtr ∷ Z ∷ [])) (within (shape (loose.the_type R Z ghosts)) (p, (a, tt)) (w ∷ [])) (ptr_val p ∷ [], (h ∷ [], tt)) $ fjoin t $ s)

  -- by its flag
  pub open_out : K → (y : Bool) (a : Z.Denot) (p : Ptr) (m : Option R.Denot) → T y
      → ((x : R.Denot) → m ≡ Some x → Seq K 𝓛 (‵ (box_owns (ghosts.dealloc_token a) R p x) ∷ Γ) G) → Seq K 𝓛 (‵ (handle_owns R a y p m) ∷ Γ) G
  open_out t true a p (Some x) is k = k x refl
  open_out t true a p None is k = (use1 𝓛 (given ⊥ (‵ ftrue)) (never_e 𝓤 _) $ learn t (λ z. absurd z))
  open_out t false a p m is k = absurd is

  pub closed_out : K → (y : Bool) (a : Z.Denot) (p : Ptr) (m : Option R.Denot) → T (not y)
      → (m ≡ None → Seq K 𝓛 Γ G) → Seq K 𝓛 (‵ (handle_owns R a y p m) ∷ Γ) G
  closed_out t true a p m is k = absurd is
  closed_out t false a p (Some x) is k = (use1 𝓛 (given ⊥ (‵ ftrue)) (never_e 𝓤 _) $ learn t (λ z. absurd z))
  closed_out t false a p None is k = drop t $ k refl
