-- The names that the walks of the checked constructors cite: of the logic, of `std` and of texts.
pub use Rattle.std.proofs.Common.{◌≡◌, ℕ, List, [], ◌∷◌, length, sym, refl, subst, lit<, MutBor, Ok, Err, Result, ap}
pub use Rattle.std.proofs.VecSteps.Shapes.{after, front, arm_body}
pub use Rattle.std.proofs.raw_atomic.Walks.{proved}
pub use Rattle.std.specs.Prelude.{IsOk, IfErr, IfOk, true, ◌↔◌}
pub use base.Fml.{ftrue, flft, GName, Lft, fobs, fres}
pub use base.Fraction.{full_share}
pub use base.Logic.{id⊢}
pub use base.Stored.{coded_list}
pub use contract.BorrowLft.{⊑_static}
pub use contract.Lifetimes.{Lfts}
pub use contract.Monad.{fact}
pub use contract.Running.{tables}
pub use denote.Builtin.{u8, SliceRefMutOf, unit}
pub use denote.Exit.{no}
pub use denote.FollowSlice.{heres_id}
pub use denote.Param.{bounded, arg, param}
pub use denote.Param.Laws.{Laws, of_field, arg_laws, param_laws}
pub use denote.Param.Shared.{copy_shared}
pub use denote.RattleType.{RattleType, owns}
pub use denote.Signature.{plain}
pub use denote.Slice.{MutSlice, Room, mut_slice_vals, mut_slice_Tells}
pub use denote.Steps.{heard, nothing, only}
pub use denote.Struct.Field.{unit-field}
pub use denote.Struct.Tuple.{Tuple}
pub use denote.Triple.Call.{calls_at}
pub use denote.Triple.Clauses.{lasts, at_exit}
pub use denote.Triple.Spec.{triple_of}
pub use denote.Triple.Table.{framed}
pub use denote.Triple.Walked.{Stays, stay_dropped, walk_of, ends_at, Goes-spent_slice}
pub use mir.MapTy.{inst_fn}
pub use mir.Syntax.{Args, Dict, a_type, dnil, dcons, named, ty_enum, ttnil}
pub use mir.Val.{Val, of_list}
pub use prog.Wp.{Wp, after_seq, at_return}
pub use types.ByLocal.{alloc_all, pass_all, free_all, look_at, look_in_at, get, get_in, get_tag, sets, sets_last, lands_as, env}
pub use types.Kit.{Post, any_q, at_ret, ‵, raw, ◌⊛◌, some, later, ◌$◌, ◌∵◌, !, qed, move, keep, drop, split, join, use0, use1, await, pick, rewrite, fsplit3, fjoin, suffices, done, prop, Sq, group, use2}
pub use types.Match.{live, vrt, in_variant}
pub use types.Part.{whole, sub, agg}
pub use types.Run.{stop, fld, hop, from, addr, enter, lit, of_opd, first, switches_on, exec, returns, and_then, no_more}
pub use types.Tokens.{lft_new}
pub use Rattle.utf16_units.proofs.EncodingLemmas.{Encodes-text_of, is_utf16-from_IsUtf16}
pub use Rattle.utf16_units.specs.Encoding.{Encodes, IsUtf16, is_utf16, text_of}
pub use Rattle.utf16_units.specs.Utf16Error.{IsErrorOf}
pub use Rattle.utf16_units.specs.declared.byte_order.Utf16Order.{Ghosts}
pub use Rattle.utf16_units.specs.declared.error.Utf16Error.{Utf16Error}
pub use Rattle.utf16_str.specs.WStrMut.{wstr_mut_lent, wstr_mut_text}
pub use Rattle.utf16_str.specs.declared.wstr_mut.WStrMut.{WStrMut}
