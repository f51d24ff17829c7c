-- `Table::take_out` meets its contract: the last is in the place of the first that passes, unless it is the one. Assumes nothing.
use Rattle.std.proofs.Common.{◌≡◌, ◌∙◌, sym, ap, refl, List, [], ◌∷◌, ◌++◌, Bool, true, false, cond, length, get_or, ◌<◌, ◌≤◌, length-take-le, ℕ, ◌-◌, set, take, rules, arith}
use lib.Seq.{take-set-lt}
use borrow.Author.Tests.{tests, eq-eqb, ne_eqb}
use Rattle.std.proofs.lemmas.Iterator.{YieldsList-from_slice}
use Rattle.std.proofs.lemmas.Iterator.Search.{position_from_yields_List}
use Rattle.std.specs.List.{position_or_len}
use Rattle.lists.specs.Lists.{take_out, replace}
use Rattle.table.specs.declared.Page.{Page}
use Rattle.table.specs.Table.{in_sector, listed}
use Rattle.table.proofs.Found.{front, out_none, out_last, replace_found, replace-none, place_found, place-none}
use Rattle.table.proofs.Table.take_out.Goals as goal

-- the last of the list is another one
out-other : (p : Page → Bool) (xs ys : List Page) (z : Page) → xs ≡ ys ++ (z ∷ []) → p z ≡ false → replace p z ys ≡ take_out p xs
out-other p xs ys z e f = sym (ap (take_out p) e ∙ out_last p ys z ∙ ap (λ (b : Bool). cond b ys (replace p z ys)) f)

pub returns-then-self-eq0 : goal.returns-then-self-eq0
returns-then-self-eq0 c =
    let t = c.args.self.now in
    let none = ap (λ (n : ℕ). length (take n t.pages)) c.if-self-eq0.true in
    record { list = sym (out_none (in_sector c.args.sector) (listed t) (λ h. absurd (omega (arith, none, h)))); free = refl }

-- z is the last of the first k: in the place i of the first that passes, or that none of the others passes, or that it is the one
module _ (p : Page → Bool) (xs : List Page) (k : ℕ) (d : Page) (room : k ≤ length xs) (one-or-more : k ≡ 0 → ⊥) where
  moved : (i : ℕ) → i ≡ position_or_len p (take (k - 1) xs) → i < length (take (k - 1) xs) → p (get_or xs (k - 1) d) ≡ false
      → take (k - 1) (set xs i (get_or xs (k - 1) d)) ≡ take_out p (take k xs)
  moved i e h f =
      let ys = take (k - 1) xs in
      let z = get_or xs (k - 1) d in
      take-set-lt (k - 1) xs i z (omega (arith, h, length-take-le (k - 1) xs (omega arith)))
      ∙ ap (λ (n : ℕ). set ys n z) e
      ∙ replace_found p z ys (omega (arith, e, h))
      ∙ out-other p (take k xs) ys z (front xs k d room one-or-more) f

  moved-none : length (take (k - 1) xs) ≤ position_or_len p (take (k - 1) xs) → p (get_or xs (k - 1) d) ≡ false → take (k - 1) xs ≡ take_out p (take k xs)
  moved-none h f =
      let ys = take (k - 1) xs in
      let z = get_or xs (k - 1) d in
      sym (replace-none p z ys h) ∙ out-other p (take k xs) ys z (front xs k d room one-or-more) f

  moved_last : p (get_or xs (k - 1) d) ≡ true → take (k - 1) xs ≡ take_out p (take k xs)
  moved_last f =
      let ys = take (k - 1) xs in
      let z = get_or xs (k - 1) d in
      sym (ap (take_out p) (front xs k d room one-or-more) ∙ out_last p ys z ∙ ap (λ (b : Bool). cond b ys (replace p z ys)) f)

pub returns-in-Some : goal.returns-in-Some
returns-in-Some c =
    let t = c.args.self.now in
    let p = in_sector c.args.sector in
    let road = YieldsList-from_slice (take (t.count - 1) t.pages) (c.iter.ensures.rest ∙ c.listed.ensures) in
    let place = position_from_yields_List p _ _ c.position.result c.position.ensures.ran road (λ x b q k. search (rules, tests)) in
    let found = place_found _ _ _ (sym c.in-Some.is ∙ place) in
    record {
      list = moved p t.pages t.count _ (omega (arith, t.sixteen)) c.if-self-eq0.false c.in-Some.i found.0 (omega (arith, found.0, found.1)) (ne_eqb _ _ c.if-last-sector.true);
      free = refl;
    }

pub returns-in_default : goal.returns-in_default
returns-in_default c =
    let t = c.args.self.now in
    let p = in_sector c.args.sector in
    let road = YieldsList-from_slice (take (t.count - 1) t.pages) (c.iter.ensures.rest ∙ c.listed.ensures) in
    let place = position_from_yields_List p _ _ c.position.result c.position.ensures.ran road (λ x b q k. search (rules, tests)) in
    record {
      list = moved-none p t.pages t.count _ (omega (arith, t.sixteen)) c.if-self-eq0.false (place-none _ _ (sym c.in_default.is ∙ place)) (ne_eqb _ _ c.if-last-sector.true);
      free = refl;
    }

pub returns-else-last-sector : goal.returns-else-last-sector
returns-else-last-sector c =
    let t = c.args.self.now in
    record {
      list = moved_last (in_sector c.args.sector) t.pages t.count _ (omega (arith, t.sixteen)) c.if-self-eq0.false (eq-eqb _ _ c.if-last-sector.false);
      free = refl;
    }
