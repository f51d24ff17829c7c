-- Document 01's example is a store of demand 3. Each part of it is computed once and cited. Assumes nothing.
use Rattle.std.specs.Prelude.{Ok}
use mathlib.Core.Path.{◌≡◌, refl, ◌∙◌, ap}
use mathlib.Core.Bool.{Bool, true, false, ◌&&◌, cond}
use mathlib.Core.List.{List, [], ◌∷◌, flat_map}
use Prim.Native.Nat.{ℕ, zero, suc, ◌+◌, ◌*◌, ◌≤◌, ◌<◌}
use native.Mathlib.Omega.{arith}
use lib.Dec.{eqb, ltb}
use lib.ListN.{get_or}
use borrow.Author.Tests.{ltb-true}
use Rattle.word.specs.Number.{part, le, be}
use Rattle.crc.specs.Crc.{crc_bit, crc_bits, crc_byte, crc_from, crc_of}
use Rattle.entry.specs.Fields.{namespace_of, entry_at, span_of, entry_crc, key_of}
use Rattle.entry.specs.Kinds.{kind_of}
use Rattle.entry.specs.States.{one, written, state_at, count_of, totals_of}
use Rattle.page.specs.declared.state.PageState.TheVariants.{Full}
use Rattle.page.specs.Record.{seen_of}
use Rattle.page.specs.State.{all_ones, word_state, header_right, state_of}
use Rattle.page.specs.Walk.{Laid, right_header, is_item, walk}
use Rattle.flash.specs.Step.{sector, run}
use Rattle.lists.specs.Lists.{keep, every, some_of, sum_of, greatest, better, best, insert_by, sort_by, least_from, ascend_to, ascend_from, ascending}
use Rattle.lists.proofs.Member.{true≢false}
use Rattle.table.specs.declared.Page.{Page}
use Rattle.table.specs.Table.{whole_sectors, pages_to, frees_to, pages, frees, items_in, sequence}
use Rattle.answer.specs.Staged.{tag, untag}
use Rattle.order.specs.Order.{kept, order_steps, order_list, ordering, ordered}
use Rattle.finish.specs.Finish.{same_bytes, name_of}
use Rattle.finishing.specs.Finishing.{freeings}
use Rattle.found.specs.Found.{Found, found_on, found, is_part, group_of, erase_all}
use Rattle.blobs.specs.Blobs.{blob_steps}
use Rattle.duplicates.specs.Duplicates.{outdated, once_each, groups, duplicate_steps, last_marks, duplicate_stage}
use Rattle.stages.specs.Stages.{last_stages, after_order, recovering, too_high, accepted}
use Rattle.plan.specs.declared.Plan.TheVariants.{Move}
use Rattle.plan.specs.Plan.{points, chosen, plan_to, plan_with, plan}
use Rattle.plan.specs.Occurs.{Met}
use Rattle.reclaim.specs.Reclaim.{reclaiming}
use Rattle.power.specs.Demand3.{Premises, Store, stored, total}
use Rattle.power.specs.Example.{first, second, third, page, image, Example}
use Rattle.power.proofs.Same.{same_eq, same_refl}
use Rattle.power.proofs.Stores.{unsettled}

sector_1 : sector 1 image ≡ page
unfolding sector
sector_1 = refl

-- ---- its items

-- the walk goes on by the item that was computed
item_here : (n i : ℕ) (r : List ℕ) (j : ℕ) → is_item page i ≡ true → part page (64 + i * 32) (span_of (entry_at page i) * 32) ≡ r → i + span_of (entry_at page i) ≡ j
    → walk page (suc n) i ≡ record { entry = i; raw = r } ∷ walk page n j
unfolding walk
item_here n i r j e f g = rw (e, f, g)

is_first : is_item page 0 ≡ true
unfolding is_item right_header state_at le kind_of entry_crc crc_of crc_from crc_byte crc_bits crc_bit
is_first = refl

is_second : is_item page 1 ≡ true
unfolding is_item right_header state_at le kind_of entry_crc crc_of crc_from crc_byte crc_bits crc_bit
is_second = refl

is_third : is_item page 2 ≡ true
unfolding is_item right_header state_at le kind_of entry_crc crc_of crc_from crc_byte crc_bits crc_bit
is_third = refl

-- no entry behind them is Written
unfoldable quiet : List ℕ → ℕ → ℕ → Bool
quiet t zero i = true
quiet t (suc n) i = cond (eqb (state_at t i) written) false (quiet t n (i + 1))

quiet_walk : (t : List ℕ) (n i : ℕ) → quiet t n i ≡ true → walk t n i ≡ []
unfolding quiet walk is_item
quiet_walk t zero i h = refl
quiet_walk t (suc n) i h = go (eqb (state_at t i) written) refl h (quiet_walk t n (i + 1))
  where
    go : (b : Bool) → eqb (state_at t i) written ≡ b → cond b false (quiet t n (i + 1)) ≡ true → (quiet t n (i + 1) ≡ true → walk t n (i + 1) ≡ []) → walk t (suc n) i ≡ []
    go true e h k = absurd (true≢false h refl)
    go false e h k = let f : is_item t i ≡ false = rw e in rw f (k h)

rest-quiet : quiet page 123 3 ≡ true
unfolding quiet state_at
rest-quiet = refl

abbrev items : List Laid
items = record { entry = 0; raw = first } ∷ record { entry = 1; raw = second } ∷ record { entry = 2; raw = third } ∷ []

items-are : items_in 1 image ≡ items
unfolding items_in
items-are =
    rw sector_1
    (item_here 125 0 first 1 is_first refl refl ∙
    ap (λ (z : List Laid). record { entry = 0; raw = first } ∷ z)
    (item_here 124 1 second 2 is_second refl refl ∙
    ap (λ (z : List Laid). record { entry = 1; raw = second } ∷ z)
    (item_here 123 2 third 3 is_third refl refl ∙ ap (λ (z : List Laid). record { entry = 2; raw = third } ∷ z) (quiet_walk page 123 3 rest-quiet))))

-- ---- its pages

abbrev full : Page
full = record { sector = 1; seen = record { state = Full; sequence = 7; written = 3; erased = 2; empty = 121; illegal = 0 } }

pages-are : pages image ≡ full ∷ []
unfolding pages pages_to sector state_of all_ones header_right word_state seen_of totals_of count_of state_at le crc_of crc_from crc_byte crc_bits crc_bit
pages-are = refl

frees-are : frees image ≡ 0 ∷ []
unfolding frees frees_to sector state_of all_ones header_right word_state le crc_of crc_from crc_byte crc_bits crc_bit
frees-are = refl

stored-are : stored image ≡ items
unfolding stored flat_map
stored-are = rw (pages-are, items-are)

-- ---- recovery has no step

abbrev founds : List Found
founds =
    record { sector = 1; sequence = 7; entry = 0; raw = first } ∷ record { sector = 1; sequence = 7; entry = 1; raw = second }
    ∷ record { sector = 1; sequence = 7; entry = 2; raw = third } ∷ []

found_are : found (full ∷ []) image ≡ founds
unfolding found found_on flat_map
found_are = rw items-are

ordered_is : ordered (full ∷ []) ≡ full ∷ []
unfolding ordered order_list kept best keep
ordered_is = refl

ordering_is : ordering (full ∷ []) ≡ []
unfolding ordering order_steps kept best keep
ordering_is = refl

blobs_none : blob_steps founds ≡ []
unfolding blob_steps keep kind_of ascending ascend_from flat_map
blobs_none = refl

duplicates_none : duplicate_steps founds ≡ []
unfolding duplicate_steps groups keep kind_of group_of key_of be ascending ascend_from ascend_to least_from outdated sort_by insert_by flat_map once_each erase_all
duplicates_none = refl

marks_none : last_marks (full ∷ []) image ≡ []
unfolding last_marks keep
marks_none = refl

freeings_none : freeings (full ∷ []) ≡ 0
unfolding freeings sum_of
freeings_none = refl

stage_none : duplicate_stage (full ∷ []) image ≡ []
unfolding duplicate_stage run
stage_none = rw (found_are, duplicates_none, marks_none)

last_none : untag (last_stages (full ∷ []) image) ≡ []
unfolding last_stages run tag untag
last_none = rw (found_are, blobs_none, stage_none)

no_steps : untag (recovering image) ≡ []
unfolding recovering after_order run tag untag
no_steps = rw (pages-are, ordering_is, ordered_is, freeings_none) last_none

unchanged : run (untag (recovering image)) image ≡ image
unfolding run
unchanged = rw no_steps

-- ---- the premises

whole : whole_sectors image ≡ true
unfolding whole_sectors
whole = refl

accepts : accepted image ≡ true
unfolding accepted too_high
accepts = rw (whole, pages-are, freeings_none)

below_256 : (xs : List ℕ) → every (λ (b : ℕ). ltb b 256) xs ≡ true → (i : ℕ) → get_or xs i 0 < 256
unfolding every
below_256 [] h i = omega arith
below_256 (x ∷ xs) h i = go (ltb x 256) refl h i (below_256 xs)
  where
    go : (b : Bool) → ltb x 256 ≡ b → cond b (every (λ (b : ℕ). ltb b 256) xs) false ≡ true → (i : ℕ)
        → (every (λ (b : ℕ). ltb b 256) xs ≡ true → (j : ℕ) → get_or xs j 0 < 256) → get_or (x ∷ xs) i 0 < 256
    go false e h i k = absurd (true≢false h refl)
    go true e h zero k = ltb-true x 256 e
    go true e h (suc i) k = k h i

all_bytes : every (λ (b : ℕ). ltb b 256) image ≡ true
unfolding every
all_bytes = refl

-- of three different names one at most is x
apart : (a b x : List ℕ) → same_bytes a b ≡ false → same_bytes a x ≡ true → same_bytes b x ≡ true → ⊥
apart a b x d p q = true≢false (rw (same_eq a x p, same_eq b x q) (same_refl x)) d

at_most_one : (a b c x : List ℕ) → same_bytes a b ≡ false → same_bytes a c ≡ false → same_bytes b c ≡ false → one (same_bytes a x) + (one (same_bytes b x) + (one (same_bytes c x) + 0)) ≤ 1
at_most_one a b c x ab ac bc = go (same_bytes a x) refl (same_bytes b x) refl (same_bytes c x) refl
  where
    go : (p : Bool) → same_bytes a x ≡ p → (q : Bool) → same_bytes b x ≡ q → (r : Bool) → same_bytes c x ≡ r → one p + (one q + (one r + 0)) ≤ 1
    go true e true f r g = absurd (apart a b x ab e f)
    go true e false f true g = absurd (apart a c x ac e g)
    go true e false f false g = omega arith
    go false e true f true g = absurd (apart b c x bc f g)
    go false e true f false g = omega arith
    go false e false f true g = omega arith
    go false e false f false g = omega arith

unshared : (x : List ℕ) → total (λ (r : List ℕ). one (same_bytes (name_of r) x)) image ≤ 1
unfolding total sum_of same_bytes name_of
unshared x = rw stored-are (at_most_one (name_of first) (name_of second) (name_of third) x refl refl refl)

no-parts : total (λ (r : List ℕ). one (is_part r && eqb (namespace_of r) 0)) image ≡ 0
unfolding total sum_of kind_of
no-parts = rw stored-are

one_page : (q : ℕ) → sum_of (λ (p : Page). one (eqb (sequence p) q)) (pages image) ≤ 1
unfolding sum_of
one_page q = rw pages-are (go (eqb 7 q))
  where
    go : (b : Bool) → one b + 0 ≤ 1
    go true = omega arith
    go false = omega arith

premises : Premises image
unfolding some_of every
premises =
    record {
      bytes = below_256 image all_bytes;
      accepts = accepts;
      part_in_0 = no-parts;
      active-or-freeing = rw pages-are;
      free_sector = rw frees-are (omega arith);
      below_126 = rw pages-are;
      distinct = one_page;
      below = rw pages-are;
      unshared = unshared;
    }

-- ---- reclaim

plan_is : plan (pages image) (frees image) ≡ Ok (Move 1 0 8)
unfolding plan plan_with plan_to chosen best better keep some_of greatest points
plan_is = rw (pages-are, frees-are)

chooses : Met (pages image) full
unfolding some_of chosen best better keep greatest points
chooses = record { none_free = rw pages-are; none_active = rw pages-are; choice = rw pages-are }

pub example : Example
unfolding reclaiming
example =
    let s : Store image = record { premises = premises; unchanged = unchanged } in
    record { store = s; unsettled = unsettled image s; moves = rw (whole, plan_is); chooses = (full, chooses) }
