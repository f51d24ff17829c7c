-- A cut of a move from an image without target is one of the images again; and those at the end hold the items that the store held. Assumes nothing.
use mathlib.Core.Path.{◌∙◌, ◌≡◌, ap, refl, sym}
use mathlib.Core.Logic.{◌⊎◌, inl, inr, ⊎_elim}
use mathlib.Core.Bool.{Bool, false, true}
use mathlib.Core.List.{List, []}
use Prim.Native.Nat.{◌*◌, ◌+◌, ◌/◌, ◌<◌, ◌^◌, ◌≤◌, ℕ}
use native.Mathlib.Omega.{arith}
use lib.Dec.{eqb}
use lib.ListN.{get_or, length}
use borrow.Author.Tests.{eqb-false, eqb-true}
use Rattle.entry.specs.States.{one}
use Rattle.page.specs.declared.state.PageState.{PageState}
use Rattle.page.specs.declared.state.PageState.TheVariants.{Active, Blank, Corrupt, Freeing, Full}
use Rattle.page.specs.State.{is_free, sequence_of, state_of}
use Rattle.page.specs.Walk.{Laid, items_of}
use Rattle.flash.specs.Step.{sector}
use Rattle.flash.proofs.Erased.{length-sector}
use Rattle.lists.specs.Lists.{sum_of, sum_to}
use Rattle.lists.proofs.Maps.{in_map, map_in, sum-map}
use Rattle.lists.proofs.Member.{true≢false}
use Rattle.lists.proofs.Range.{sum_to_ext, sum_to_one_le, sum_to-two, sum_to-two-le}
use Rattle.table.specs.Table.{active, freeing, frees, sectors_of}
use Rattle.table.proofs.Pages.{length-frees}
use Rattle.power.specs.Demand3.{total}
use Rattle.power.proofs.State.{AllFree, Good, Side, Source, State, Target, done, full, junk, partly, target_apart}
use Rattle.relocate.proofs.Copies.{Partial, Settled, going-active, going_partial, going-seq, items-fine, ready-items, ready-seq, ready_settled, spans}
use Rattle.relocate.proofs.Move.{Cut, ended, going, ready, unmade}
use Rattle.item.proofs.Fresh.{blank_free}
use Rattle.power.proofs.Lone.{Lone}
use Rattle.power.proofs.Quiet.{Rest, Still, still-rest}
use Rattle.power.proofs.Finish.{Seq}
use Rattle.item.proofs.Shape.{AllFine, raws}
use Rattle.page.proofs.Items.{free_none}
use Rattle.flash.proofs.Small.{part_small}
use Rattle.power.proofs.Totals.{on_sector, total-sectors}

-- 1 where sector u is free
abbrev pub free_at : List ℕ → ℕ → ℕ
free_at l u = one (is_free (state_of (sector u l)))

-- a free sector is neither Active nor Freeing
pub still_else : (M : PageState) → (is_free M ≡ false → Still M) → Still M
still_else Blank h = (refl, refl)
still_else Corrupt h = (refl, refl)
still_else Active h = h refl
still_else Full h = h refl
still_else Freeing h = h refl

free_still : (M : PageState) → is_free M ≡ true → Still M
free_still M e = still_else M (λ f. absurd (true≢false e f))

raws-sum : (f : List ℕ → ℕ) (xs ys : List Laid) → raws xs ≡ raws ys → sum_of (λ (i : Laid). f i.raw) xs ≡ sum_of (λ (i : Laid). f i.raw) ys
raws-sum f xs ys e = sym (sum-map f (λ (i : Laid). i.raw) xs) ∙ ap (sum_of f) e ∙ sum-map f (λ (i : Laid). i.raw) ys

-- recovery has done with the image, and it holds what the store L held
pub record Final (L m : List ℕ) : Type 0 where
  pub len : length m ≡ length L
  pub rest : Rest m
  pub totals : (f : List ℕ → ℕ) → total f m ≡ total f L
  pub free : length (frees L) ≤ length (frees m)

-- a store of which every sector is still is such an image itself
pub still_final : (L : List ℕ) → ((u : ℕ) → u < sectors_of L → Still (state_of (sector u L))) → Final L L
still_final L h = record { len = refl; rest = still-rest L h; totals = λ f. refl; free = omega arith }

module _ (L : List ℕ) (s : ℕ) (G : Good L s) (small : (i : ℕ) → get_or L i 0 < 256) where
  abbrev n : ℕ
  n = sectors_of L

  abbrev X : List Laid
  X = items_of (sector s L)

  room : (u : ℕ) → u < n → u * 4096 + 4096 ≤ length L
  room u h = omega arith

  -- the source's items fit on a page
  pub X-fine : AllFine (raws X) × (spans (raws X) ≤ 126)
  X-fine = items-fine (sector s L) (length-sector s L ∙ (let r = room s G.here in omega arith)) small_s
    where
      small_s : (i : ℕ) → get_or (sector s L) i 0 < 256
      small_s i = unfold sector in part_small L (s * 4096) 4096 small i

  -- ---- a cut of a move, from an image with no target
  module _ (l : List ℕ) (D : Side L l s) (R : Source L l s) (F : AllFree L l) (t q : ℕ) (ht : t < n) (was : is_free (state_of (sector t L)) ≡ true) (Q : Seq L q) where
    not_t : (u : ℕ) → is_free (state_of (sector u L)) ≡ false → u ≡ t → ⊥
    not_t u e k = true≢false was (rw k at e)

    pub q_small : q < 2 ^ 32
    q_small = let b = Q.bound in omega arith

    module _ (m : List ℕ) (ln : length m ≡ length l) where
      pub side_of : ((u : ℕ) → (u ≡ t → ⊥) → (u ≡ s → ⊥) → sector u m ≡ sector u l) → Side L m s
      side_of o = record { len = ln ∙ D.len; kept = λ u h ne e. o u (not_t u e) ne ∙ D.kept u h ne e }

      source_of : ((u : ℕ) → (u ≡ t → ⊥) → sector u m ≡ sector u l) → Source L m s
      source_of o = let e = o s (not_t s G.page) in record { state = rw e R.state; seq = rw e R.seq; items = rw e R.items }

      pub target_of : ((u : ℕ) → (u ≡ t → ⊥) → (u ≡ s → ⊥) → sector u m ≡ sector u l) → sequence_of (sector t m) ≡ q → Target L m t q
      target_of o e = record {
        here = ht;
        was = was;
        seq = e;
        above = Q.above;
        bound = Q.bound;
        rest = λ u h k f. rw (o u k (λ z. true≢false (rw z at f) G.page)) (F u h f);
      }

      -- each cut of a move is one of the images
      pub cut-state : Cut q X X-fine.0 X-fine.1 s t l m → State L s m
      cut-state (unmade o f) = junk (side_of (λ u a b. o u a)) (source_of o) t ht was (λ u h e. free_at_lem u h e (eqb u t) refl)
        where
          free_at_lem : (u : ℕ) → u < n → is_free (state_of (sector u L)) ≡ true → (b : Bool) → eqb u t ≡ b → is_free (state_of (sector u m)) ≡ true
          free_at_lem u h e true k = rw (eqb-true u t k) f
          free_at_lem u h e false k = rw (o u (eqb-false u t k)) (F u h e)
      cut-state (going o g) =
          partly t q (side_of (λ u a b. o u a)) (source_of o) (target_of (λ u a b. o u a) (going-seq q X (sector t m) q_small g))
          (going-active q X (sector t m) g) (going_partial q X (sector t m) (sector s L) refl g)
      cut-state (ready o r) = ⊎_elim
          (λ k. partly t q (side_of (λ u a b. o u a)) (source_of o) (target_of (λ u a b. o u a) (ready-seq q X (sector t m) q_small r)) k (all_there (ready-items q X (sector t m) r)))
          (λ k. full t q (side_of (λ u a b. o u a)) (source_of o) (target_of (λ u a b. o u a) (ready-seq q X (sector t m) q_small r)) k (ready-items q X (sector t m) r))
          (ready_settled q X (sector t m) r)
        where
          all_there : raws (items_of (sector t m)) ≡ raws X → Partial (sector s L) (sector t m)
          all_there e =
              record { sub = λ y k. map_in (λ (i : Laid). i.raw) X y.raw (rw e at (in_map (λ (i : Laid). i.raw) (items_of (sector t m)) y k)); complete = λ z. e }
      cut-state (ended o r b) =
          done t q (side_of o) (rw b blank_free) (target_of o (ready-seq q X (sector t m) q_small r)) (ready_settled q X (sector t m) r) (ready-items q X (sector t m) r)

  -- ---- the images at the end
  pub active-old : (m : List ℕ) → Side L m s → (u : ℕ) → u < n → (u ≡ s → ⊥) → is_free (state_of (sector u L)) ≡ false → state_of (sector u m) ≡ Full
  active-old m D u h k e = ap state_of (D.kept u h k e) ∙ G.fulls u h e

  free_zero : (f : List ℕ → ℕ) (l : List ℕ) (u : ℕ) → is_free (state_of (sector u l)) ≡ true → on_sector f l u ≡ 0
  unfolding sum_of
  free_zero f l u e = rw (free_none (sector u l) e)

  total_from : (f : List ℕ → ℕ) (m : List ℕ) → length m ≡ length L → sum_to (on_sector f m) n ≡ sum_to (on_sector f L) n → total f m ≡ total f L
  total_from f m e h = total-sectors f m ∙ ap (λ (k : ℕ). sum_to (on_sector f m) (k / 4096)) e ∙ h ∙ sym (total-sectors f L)

  free_from : (m : List ℕ) → length m ≡ length L → sum_to (free_at L) n ≤ sum_to (free_at m) n → length (frees L) ≤ length (frees m)
  free_from m e h = let a = length-frees L in let b = length-frees m ∙ ap (λ (k : ℕ). sum_to (free_at m) (k / 4096)) e in omega arith

  module _ (m : List ℕ) (t q : ℕ) (D : Side L m s) (fs : is_free (state_of (sector s m)) ≡ true) (T : Target L m t q) (W : Settled (sector t m))
      (E : raws (items_of (sector t m)) ≡ raws X) where
    abbrev nm : sectors_of m ≡ n
    nm = ap (λ (k : ℕ). k / 4096) D.len

    -- each sector is the source, the target, an old page, or free as it was
    which : (u : ℕ) → u < n
        → (u ≡ s) ⊎
        ((u ≡ t) ⊎ (((u ≡ s → ⊥) × (sector u m ≡ sector u L) × (state_of (sector u m) ≡ Full)) ⊎ ((is_free (state_of (sector u m)) ≡ true) × (is_free (state_of (sector u L)) ≡ true))))
    which u h = go (eqb u s) refl (eqb u t) refl (is_free (state_of (sector u L))) refl
      where
        go : (a : Bool) → eqb u s ≡ a → (b : Bool) → eqb u t ≡ b → (c : Bool) → is_free (state_of (sector u L)) ≡ c
            → (u ≡ s) ⊎
            ((u ≡ t) ⊎ (((u ≡ s → ⊥) × (sector u m ≡ sector u L) × (state_of (sector u m) ≡ Full)) ⊎ ((is_free (state_of (sector u m)) ≡ true) × (is_free (state_of (sector u L)) ≡ true))))
        go true x b y c z = inl (eqb-true u s x)
        go false x true y c z = inr (inl (eqb-true u t y))
        go false x false y false z = inr (inr (inl (eqb-false u s x, D.kept u h (eqb-false u s x) z, active-old m D u h (eqb-false u s x) z)))
        go false x false y true z = inr (inr (inr (T.rest u h (eqb-false u t y) z, z)))

    s_not_t : s ≡ t → ⊥
    s_not_t k = target_apart L m t q T s G.page k

    at_s : (u : ℕ) → u ≡ s → is_free (state_of (sector u m)) ≡ true
    at_s u k = ap (λ (v : ℕ). is_free (state_of (sector v m))) k ∙ fs

    active_t : (u : ℕ) → u < n → active (state_of (sector u m)) ≡ true → u ≡ t
    active_t u h e =
        ⊎_elim (λ k. absurd (true≢false e (free_still (state_of (sector u m)) (at_s u k)).0))
        (λ k. ⊎_elim (λ z. z) (λ z. absurd (⊎_elim (λ w. true≢false e (rw w.2)) (λ w. true≢false e (free_still (state_of (sector u m)) w.0).0) z)) k) (which u h)

    at_t : (u : ℕ) → u ≡ t → Settled (sector t m) → freeing (state_of (sector u m)) ≡ false
    at_t u k (inl w) = let y : state_of (sector u m) ≡ Active = ap (λ (v : ℕ). state_of (sector v m)) k ∙ w in rw y
    at_t u k (inr w) = let y : state_of (sector u m) ≡ Full = ap (λ (v : ℕ). state_of (sector v m)) k ∙ w in rw y

    freeing-no : (u : ℕ) → u < n → freeing (state_of (sector u m)) ≡ false
    freeing-no u h =
        ⊎_elim (λ k. (free_still (state_of (sector u m)) (at_s u k)).1)
        (λ k. ⊎_elim (λ z. at_t u z W) (λ z. ⊎_elim (λ w. rw w.2) (λ w. (free_still (state_of (sector u m)) w.0).1) z) k) (which u h)

    -- the target holds the source's items: the sums are the store's
    pub done_final : Final L m
    unfolding Lone
    done_final = record {
      len = D.len;
      rest = record {
        no-freeing = λ u h. freeing-no u (rw nm at h);
        lone = λ u v hu hv eu ev. active_t u (rw nm at hu) eu ∙ sym (active_t v (rw nm at hv) ev);
      };
      totals = λ f. total_from f m D.len (sum_to-two (on_sector f m) (on_sector f L) n s t G.here T.here s_not_t (same_at f) (swap f));
      free = free_from m D.len (sum_to-two-le (free_at L) (free_at m) n s t G.here T.here s_not_t free_same free_swap);
    }
      where
        same_at : (f : List ℕ → ℕ) (u : ℕ) → u < n → (u ≡ s → ⊥) → (u ≡ t → ⊥) → on_sector f m u ≡ on_sector f L u
        same_at f u h a b =
            ⊎_elim (λ k. absurd (a k))
            (λ k. ⊎_elim (λ z. absurd (b z)) (λ z. ⊎_elim (λ w. rw w.1) (λ w. free_zero f m u w.0 ∙ sym (free_zero f L u w.1)) z) k) (which u h)

        swap : (f : List ℕ → ℕ) → on_sector f m s + on_sector f m t ≡ on_sector f L s + on_sector f L t
        swap f =
            let a = free_zero f m s fs in let b = free_zero f L t T.was in let c : on_sector f m t ≡ on_sector f L s = raws-sum f (items_of (sector t m)) X E in omega arith

        free_same : (u : ℕ) → u < n → (u ≡ s → ⊥) → (u ≡ t → ⊥) → free_at L u ≡ free_at m u
        free_same u h a b = ⊎_elim (λ k. absurd (a k)) (λ k. ⊎_elim (λ z. absurd (b z)) (λ z. ⊎_elim (λ w. rw w.1) (λ w. rw (w.0, w.1)) z) k) (which u h)

        free_swap : free_at L s + free_at L t ≤ free_at m s + free_at m t
        free_swap = let a : free_at L s ≡ 0 = rw G.page in let b : free_at L t ≡ 1 = rw T.was in let c : free_at m s ≡ 1 = rw fs in omega arith

  -- no target: the source had no items
  module _ (m : List ℕ) (D : Side L m s) (fs : is_free (state_of (sector s m)) ≡ true) (F : AllFree L m) (E : X ≡ []) where
    sort : (u : ℕ) → u < n
        → (u ≡ s) ⊎
        (((u ≡ s → ⊥) × (sector u m ≡ sector u L) × (state_of (sector u m) ≡ Full)) ⊎ ((is_free (state_of (sector u m)) ≡ true) × (is_free (state_of (sector u L)) ≡ true)))
    sort u h = go (eqb u s) refl (is_free (state_of (sector u L))) refl
      where
        go : (a : Bool) → eqb u s ≡ a → (c : Bool) → is_free (state_of (sector u L)) ≡ c
            → (u ≡ s) ⊎
            (((u ≡ s → ⊥) × (sector u m ≡ sector u L) × (state_of (sector u m) ≡ Full)) ⊎ ((is_free (state_of (sector u m)) ≡ true) × (is_free (state_of (sector u L)) ≡ true)))
        go true x c z = inl (eqb-true u s x)
        go false x false z = inr (inl (eqb-false u s x, D.kept u h (eqb-false u s x) z, active-old m D u h (eqb-false u s x) z))
        go false x true z = inr (inr (F u h z, z))

    -- every sector is Full or free
    quiet_at : (u : ℕ) → u < n → Still (state_of (sector u m))
    quiet_at u h =
        ⊎_elim (λ k. free_still (state_of (sector u m)) (ap (λ (v : ℕ). is_free (state_of (sector v m))) k ∙ fs))
        (λ k. ⊎_elim (λ z. rw z.2 (refl, refl)) (λ z. free_still (state_of (sector u m)) z.0) k) (sort u h)

    -- the source had no items: the sums are the store's
    pub gone_final : Final L m
    gone_final =
        let nm : sectors_of m ≡ n = ap (λ (k : ℕ). k / 4096) D.len in
        record {
          len = D.len;
          rest = still-rest m (λ u h. quiet_at u (rw nm at h));
          totals = λ f. total_from f m D.len (sum_to_ext (on_sector f m) (on_sector f L) n (same_at f));
          free = free_from m D.len (sum_to_one_le (free_at L) (free_at m) n s G.here free_same (let a : free_at L s ≡ 0 = rw G.page in omega arith));
        }
      where
        none_s : (f : List ℕ → ℕ) → on_sector f L s ≡ 0
        none_s f = unfold sum_of in rw E

        same_at : (f : List ℕ → ℕ) (u : ℕ) → u < n → on_sector f m u ≡ on_sector f L u
        same_at f u h =
            ⊎_elim (λ k. ap (on_sector f m) k ∙ free_zero f m s fs ∙ sym (none_s f) ∙ ap (on_sector f L) (sym k))
            (λ k. ⊎_elim (λ w. rw w.1) (λ w. free_zero f m u w.0 ∙ sym (free_zero f L u w.1)) k) (sort u h)

        free_same : (u : ℕ) → u < n → (u ≡ s → ⊥) → free_at L u ≡ free_at m u
        free_same u h a = ⊎_elim (λ k. absurd (a k)) (λ k. ⊎_elim (λ w. rw w.1) (λ w. rw (w.0, w.1)) k) (sort u h)

  -- the store itself: each of its sectors is Full or free
  pub same_final : Final L L
  same_final = still_final L (λ u h. still_else (state_of (sector u L)) (λ e. rw (G.fulls u h e) (refl, refl)))
