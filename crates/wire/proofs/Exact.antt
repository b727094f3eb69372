-- Each callable function's promise, as Rattle reads it from the contract, allows one result.
use mathlib.Core.Path.{refl, sym, ◌∙◌}
use Prim.Native.Nat.{ℕ}
use mir.Val.{Fits}
use mir.Syntax.{w64}
use contract.Lifetimes.{Lfts}
use Rattle.wire.specs.Exact.{Exact, ExactIn}
use Rattle.wire.proofs.read_u16.Reads as read_u16
use Rattle.wire.proofs.read_u32.Reads as read_u32
use Rattle.wire.proofs.put.Reads as put
use Rattle.wire.proofs.put_u16.Reads as put_u16
use Rattle.wire.proofs.put_u32.Reads as put_u32

pub read_u16_exact : (κs : Lfts 1) → Exact (read_u16.Post κs)
read_u16_exact κs a e e' r r' p q = p ∙ sym q

pub read_u32_exact : (κs : Lfts 1) → Exact (read_u32.Post κs)
read_u32_exact κs a e e' r r' p q = p ∙ sym q

pub put_exact : (n : ℕ) (fits : Fits w64 n) (κs : Lfts 2) → ExactIn (λ a. a.0) (put.Post n fits κs)
put_exact n fits κs a e e' r r' p q = (refl, p ∙ sym q)

pub put_u16_exact : (κs : Lfts 1) → ExactIn (λ a. a.0) (put_u16.Post κs)
put_u16_exact κs a e e' r r' p q = (refl, p ∙ sym q)

pub put_u32_exact : (κs : Lfts 1) → ExactIn (λ a. a.0) (put_u32.Post κs)
put_u32_exact κs a e e' r r' p q = (refl, p ∙ sym q)
