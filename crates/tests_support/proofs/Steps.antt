-- The names of the logic and of `std` that the walks cite.
pub use Rattle.std.proofs.Common.{◌≡◌, ℕ, ◌+◌, true, false, List, [], ◌∷◌, Ok, Err, refl, sym, subst, ap, T, w64, Bor}
pub use Rattle.std.proofs.VecSteps.Shapes.{after, front, arm_body}
pub use Rattle.std.proofs.alloc.Calls.{Al, α, token, seen, Answer, answer_val, Answer-typed, Answer-Ok, Answer-err, Takes, at_takes, Answered, Takes-goes, Takes-gives, answers, Gives, at_gives, Gives-goes, Gives-Gives}
pub use Rattle.std.proofs.raw_atomic.Walks.{proved}
pub use Rattle.std.specs.Allocator.{block_if_ok}
pub use base.Fml.{Lft, Share, Fml, ftrue, fsep, flft}
pub use base.Logic.{ent, never, fst∗}
pub use contract.BorrowLft.{◌⊑◌, ⊑_trans}
pub use contract.Monad.{fact}
pub use contract.Running.{tables}
pub use denote.Builtin.{bool, u64, unit, usize, RawPtr, RefOf}
pub use denote.Exit.{yes}
pub use denote.Memory.{hidden_shr}
pub use denote.Opens.{unhide}
pub use denote.Param.{bounded, layout, param}
pub use denote.Plain.{uint_vals, uint_Tells}
pub use denote.RattleType.{RattleType, owns}
pub use denote.RawPtr.{Ptr, block_ptr, null_ptr, ptr_val, rawptr_vals, rawptr_Tells, room_for, in_a_block}
pub use denote.Ref.{shr_vals}
pub use denote.Signature.{Slot, plain, type_at, types_at}
pub use denote.Steps.{heard, nothing, only}
pub use denote.Triple.Call.{calls_at, calls_at_last}
pub use denote.Triple.Table.{framed}
pub use denote.Triple.Walked.{Stays, stay_dropped, walk_of, ends_at, Goes-dropped}
pub use mir.MapTy.{inst_fn}
pub use mir.Syntax.{Args, a_type, dnil, dcons}
pub use mir.Val.{Val, vint, vptr, vunit, has_ty, WT}
pub use prog.Memory.{size, align, capped, up}
pub use prog.Wp.{Wp, WpFn, after_seq, at_return}
pub use seplogic.Ra.Ura.{Ura}
pub use types.ByLocal.{alloc_all, pass_all, free_all, look_at, get, get_tag, through, sets, lands_as, lands_last, env}
pub use types.Kit.{Item, Goal, Seq, Sq, Post, ‵, raw, ◌⊛◌, later, given, mean, prop, any_q, at_ret, ◌$◌, ◌∵◌, !, qed, move, keep, drop, use0, use1, use2, split, split3, join, learn, fsplit, fjoin, feq_i, feq_l, regoal, suffices, group, await, done}
pub use types.Logic.{Logic, sem}
pub use types.Match.{vrt}
pub use types.Part.{agg, whole}
pub use types.Run.{stop, fld, lit, addr, of_opd, unit_lit, no_more, and_then, first, branches, skips, switches_on, exec, returns, returns_within, enter}
