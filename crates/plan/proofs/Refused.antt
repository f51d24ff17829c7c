-- Where a `?` on an option goes out: there is nothing, and the call answers with the refusal. Assumes nothing.
use Rattle.std.specs.Prelude.{Option, Some, None, Result, Err}
use Rattle.std.specs.Option.{ok_or}
use Rattle.std.specs.Result.{IsErrAnd}
use Rattle.std.proofs.lemmas.Result.{err_from_is_err_and}
use mathlib.Core.Path.{◌≡◌, refl, ap, ◌∙◌}
use Prim.Native.Nat.{ℕ}
use native.Mathlib.Omega.{arith}

pub refused : {T B E : Type 0} (o : Option T) {e x : E} {r : Result T E} {v : Result B E} → r ≡ ok_or o e → r ≡ Err x → IsErrAnd v (λ y. y ≡ x) → (o ≡ None) × (v ≡ Err e)
refused None {e} {x} {r} {v} is was h = let out = err_from_is_err_and v h in let same : x ≡ e = cc in (refl, out.1 ∙ ap Err (out.2 ∙ same))
refused (Some t) is was h = absurd (let z : ◌≡◌ {A = ℕ} 0 1 = cc in omega arith)
