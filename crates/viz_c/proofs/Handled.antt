-- A handle and a box as its pointer own what a box at the same types owns.
--     E                        the box's types, for the walks of `BoxSteps`
--     handle_none_in, handle_out    an empty handle is made of an allocator alone; any handle is taken apart
use Rattle.std.proofs.Common.{◌≡◌, List, [], ◌∷◌, ◌++◌, refl, subst, lit<}
use lib.Dec.{T}
use seplogic.Ra.Ura.{Ura}
use mir.Syntax.{impl, tnil, dnil, ty_ptr}
use mir.Val.{Val, vnull, vstruct, of_list, has_ty, WT}
use types.Logic.{Logic}
use base.Logic.{id⊢}
use types.Kit.{use1, Item, Goal, Seq, Step, step, ‵, ◌$◌, move, drop, fsplit, fjoin, fpick, fpack, feq_i, feq_l}
use denote.RattleType.{Valss}
use denote.RawPtr.{Ptr, RawPtr, block_ptr, null_ptr, ptr_val}
use denote.Signature.{Slot, plain}
use denote.Steps.{nothing}
use denote.Struct.Struct.{within}
use denote.Struct.Owning.{shape}
use Rattle.std.specs.{Prelude.None, contracts.impls.GlobalAllocator.TheImpl.ghosts, contracts.impls.GlobalAllocator.TheImpl.dict}
use Rattle.std.proofs.BoxSteps.Form.{Bx, P, owning, box_ty}
use Rattle.std.proofs.alloc.Calls.{α, Fits, handle_tells}
use Rattle.std.specs.contracts.alloc.Global as Heap
use Rattle.std.proofs.alloc.Global.TheLaws as heap
use Rattle.viz_c.specs.contracts.stage.Stage as Stage
use Rattle.viz_c.proofs.stage.Stage.TheLaws as stage
use Rattle.viz_c.specs.contracts.loose.Loose as Loose
use Rattle.viz_c.specs.contracts.handle.Handle as Handle
use Rattle.viz_c.proofs.Loosened.{both, both_tt}

abbrev pub E : Bx
E = record { row = Stage.the_row; laws = stage.the_row_laws; al = record { row = Heap.the_row; laws = heap.the_row_laws; g = ghosts; d = dict; drops = impl [] tnil dnil } }

abbrev pub FromLoose : Slot 0
FromLoose = plain (λ _. Loose.the_row Stage.the_row Heap.the_row ghosts)

abbrev pub FromHandle : Slot 0
FromHandle = plain (λ _. Handle.the_row)

abbrev pub FromGlobal : Slot 0
FromGlobal = plain (λ _. Heap.the_row)

ptr_has : (p : Ptr) → T (has_ty ty_ptr (ptr_val p))
ptr_has (block_ptr b o) = tt
ptr_has null_ptr = tt

ptr_wt : (p : Ptr) → WT (ptr_val p)
ptr_wt (block_ptr b o) = tt
ptr_wt null_ptr = record { fits = lit< tt }

pub handle_good : (p : Ptr) (h : Val) → Fits E.al h → T (has_ty (box_ty E) (both (ptr_val p) h)) × WT (both (ptr_val p) h)
handle_good p h fits = (both_tt (has_ty ty_ptr (ptr_val p)) (has_ty (α E.al) h) (ptr_has p) fits.0, (ptr_wt p, (fits.1, tt)))

module _ {M : Type 1} {𝓤 : Ura M} {𝓛 : Logic 𝓤} {K : Type 0} {Γ : List (Item 𝓤)} {G : Goal 𝓤 𝓛.H} where
  pub handle_none_in : K → (h : Val) (a : Heap.the_row.Denot)
      → Step K 𝓛 (‵ (Handle.the_row.own_val (record { at = null_ptr; alloc = a; stage = None }) (both vnull h ∷ [])) ∷ Γ) G (‵ (Heap.the_row.own_val a (h ∷ [])) ∷ Γ) G
  handle_none_in t h a = step (λ s. let v : Val = both vnull h in
      nothing t $ nothing t $ move t (2 ∷ 0 ∷ []) $ fjoin t $ feq_i t (List Val) (vnull ∷ []) (vnull ∷ []) refl $ fjoin t $ feq_i t (List Val) (v ∷ []) (v ∷ []) refl $ fjoin t $
      fpack t (Valss (RawPtr ∷ P E ∷ [])) (within (shape (owning E)) (null_ptr, (a, tt)) (v ∷ [])) (vnull ∷ [], (h ∷ [], tt)) $ fjoin t $
      use1 𝓛 (‵ (Handle.the_row.own_val (record { at = null_ptr; alloc = a; stage = None }) (v ∷ []))) (id⊢ 𝓤 _) $ s)

  pub handle_out : K → (d : Handle.the_row.Denot) (vs : List Val)
      → ((h : Val) → vs ≡ both (ptr_val d.at) h ∷ [] → Fits E.al h → Seq K 𝓛 (‵ (Heap.the_row.own_val d.alloc (h ∷ [])) ∷ Γ) G)
      → Seq K 𝓛 (‵ (Handle.the_row.own_val d vs) ∷ Γ) G
  handle_out t d vs k =
      fsplit t $ fpick t (λ vss. fsplit t $ feq_l t (λ ev. fsplit t $ feq_l t (λ ep. fsplit t $ handle_tells E.al t d.alloc vss.1.0 (λ h ea fits. move t (1 ∷ 2 ∷ []) $ drop t $ drop t $ k h
      (subst (λ (ws : List Val). vs ≡ vstruct (of_list (ptr_val d.at ∷ (ws ++ []))) ∷ []) ea (subst (λ (ps : List Val). vs ≡ vstruct (of_list (ps ++ (vss.1.0 ++ []))) ∷ []) ep ev)) fits))))
