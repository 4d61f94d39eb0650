-- The names that walks of code cite, from one place.
pub use mathlib.Core.Path.{◌≡◌, refl, sym, ap, subst, ◌∙◌}
pub use Prim.Native.Nat.{ℕ, ◌<◌, ◌^◌, ◌*◌, ◌+◌}
pub use native.Mathlib.Nat.{lt_irrefl}
pub use mathlib.Core.Bool.{Bool}
pub use mathlib.Core.List.{[], ◌∷◌, List}
pub use lib.Dec.{ltb, lt→ltb, ltb→lt, lit<}
pub use lib.ListN.{length, get_or}
pub use seplogic.Ra.Ura.{Ura}
pub use base.Fraction.{full_share}
pub use mir.Syntax.{Ty, loop, named, mut, imm, w32, w64, ty_int, ty_bool, ty_ptr, ty_ref, ty_unit}
pub use mir.Val.{Val, vunit, vbool, vint}
pub use base.Logic.{SProp, ent, id⊢}
pub use base.Fml.{Lft, Share, GName, Fml, ftrue, fat, flft, fobs, fauth, fbor, fobor}
pub use prog.Memory.{Memory}
pub use prog.Routine.{Routine}
pub use prog.Wp.{Heap, Out, Env, after_seq, after_block, Wp, at_return, WpFn, Tables}
unfoldable pub use prog.Wp.{after_turn}
pub use ghost.Atoms.{Atoms}
pub use contract.Monad.{Fun}
pub use contract.Running.{tables}
unfoldable pub use contract.Running.{tables_of}
pub use types.Kit.{Item, ‵, ◌⊛◌, ⋆, any_q, at_ret, ◌$◌, ◌∵◌, !, qed, by, move, keep, drop, split, join, rewrite, fsplit, fjoin}
pub use types.Kit.{feq_l, feq_i, suffices, frame, done}
pub use types.Run.{look, look_raw, init, store, store_raw, forget, stop, hop, fld, from, load, lit, unit_lit, of_opd, bin, addr, and_then, no_more}
pub use types.Run.{assigns, assigns_last, stays, leaves_loop, returns, enter, alloc1, alloc0, params1, pass1}
pub use types.Run.{pass0, free1, free0, exec}
pub use types.Part.{whole, sub, look_in, agg}
pub use sound.WpLaws.{FmC, fm_of}
pub use denote.RattleType.{owns}
pub use denote.Memory.{pointee}
pub use denote.Shadow.{pure_i}
pub use denote.Laws.{Is, shows}
pub use denote.Plain.{uint_vals, uint_Tells, uint_Lawful}
pub use denote.Builtin.{u32, usize}
pub use denote.Ref.{Bor, MutBor}
pub use denote.Slice.{slice_ty, slice_val, MutSlice, ShrSlice, Room, finally, heres, coded_holeys, shr_slice_at, mut_slice_at, shr_slice_vals, mut_slice_vals, mut_slice_Tells, shr_slice_Tells}
pub use denote.Lend.{Held}
pub use denote.Index.{row, elem_out, elem_put, opens_slice, closes_slice}
pub use denote.Steps.{nothing}
pub use denote.Signature.{plain, shr_slice_of}
pub use denote.Triple.Entry.{on_entry}
pub use denote.Triple.Table.{cited}
pub use denote.Triple.Walked.{says, needs, Stays, stay_slice, stay_dropped, walk_of, Goes-slice}
pub use denote.Triple.Walked.{Goes-dropped, ends_at, walked}
pub use denote.Exit.{yes}
pub use Rattle.walks.proofs.Loop.{holds, fails, full, bare, for_at}
pub use Rattle.walks.proofs.Local.{down, free_v, loc, ptr_of, count_of, sets, lands_in, elem_place}
pub use Rattle.walks.proofs.Call.{Knows, told, calls_told, calls_value, word, give32, give64, lend}
pub use Rattle.walks.proofs.Spec.{walk_spec}
