-- Rule. Demand 3, of the calls themselves, by what they promise and nothing else: reclaim with any allowance, then recovery begun any number of times, each
-- time with any allowance and with records enough. A call whose allowance is used up leaves what a power failure at that step leaves. Assumes nothing.
use Rattle.std.specs.Prelude.{◌≡◌, false, List, ℕ, zero, suc, ◌≤◌, length}
use Rattle.answer.specs.declared.Answer.{Answer}
use Rattle.answer.specs.Answer.{number_of, refusal}
use Rattle.page.specs.declared.«record».PageRecord.{PageRecord}
use Rattle.table.specs.Table.{sectors_of, frees}
use Rattle.reclaim.specs.Promise.{ReclaimPromise, most_steps as mostReclaiming}
use Rattle.recover.specs.Promise.{RecoverPromise, most_steps}
use Rattle.power.specs.Demand3.{Premises, Store, held}

-- a call of recovery on the image l, with n steps allowed, left the image m and answered a
pub record Called (l m : List ℕ) (a : Answer) : Type 0 where
  pub lent : List PageRecord
  pub stored : List PageRecord
  pub allowance : ℕ
  pub enough : sectors_of l ≤ length lent
  pub promised : RecoverPromise l lent allowance m stored a

-- recovery called k times, each call on what the last one left
unfoldable pub Restarts : ℕ → List ℕ → List ℕ → Type 0
Restarts zero l m = m ≡ l
Restarts (suc k) l m = (x : List ℕ) × (a : Answer) × Called l x a × Restarts k x m

-- w holds the items of the store l, each once, and no fewer sectors of it are free
pub record Stands (l w : List ℕ) : Type 0 where
  pub items : (x : List ℕ) → held x w ≡ held x l
  pub once : (x : List ℕ) → held x w ≤ 1
  pub free : length (frees l) ≤ length (frees w)

-- of any call of recovery, on the way or the last: it is not refused, and if it ended the store l stands again
pub record Sound (l w : List ℕ) (a : Answer) : Type 0 where
  -- "0 and 7 are no refusals"
  pub accepts : refusal a ≡ false
  pub stands : number_of a ≡ 0 → Stands l w

abbrev pub CallsSafe : Type 0
CallsSafe = (l : List ℕ) → Store l → (c : ℕ) (x : List ℕ) (r : Answer) → ReclaimPromise l c x r → (m : List ℕ) (k : ℕ) → Restarts k x m → (w : List ℕ) (a : Answer) → Called m w a → Sound l w a

-- "and at last run to its end": on whatever those calls left, a call that is allowed the steps of the longest list is not stopped; so the store stands again
abbrev pub CallsEnd : Type 0
CallsEnd =
    (l : List ℕ) → Store l → (c : ℕ) (x : List ℕ) (r : Answer) → ReclaimPromise l c x r → (m : List ℕ) (k : ℕ) → Restarts k x m → (w : List ℕ) (a : Answer) → (last : Called m w a)
    → most_steps ≤ last.allowance → (number_of a ≡ 0) × Stands l w

-- within the premises reclaim is not refused, so demand 3 speaks of calls that make steps; allowed the steps of its longest list it ends
abbrev pub Reclaims : Type 0
Reclaims =
    (l : List ℕ) → Premises l → (n : ℕ) (m : List ℕ) (r : Answer) → ReclaimPromise l n m r → (refusal r ≡ false) × (mostReclaiming ≤ n → number_of r ≡ 0)
