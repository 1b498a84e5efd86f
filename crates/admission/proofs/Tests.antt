-- The tests of each call, one group after another: the first that refuses stands, and where each passes the next decides. Assumes nothing.
use Prim.Native.Nat.{ℕ, ◌<◌, ◌≤◌, max}
use mathlib.Core.Bool.{Bool, true, false, cond}
use lib.Dec.{ltb}
use borrow.Author.Tests.{ltb-true, ltb-false}
use Rattle.std.proofs.Math.Nat.{le-max_left, le-max_right, max-le}
use mathlib.Core.List.{List, ◌++◌}
use mathlib.Core.Path.{◌≡◌, refl, sym, ap, ap₂, ◌∙◌}
use native.Mathlib.Omega.{arith}
use Rattle.std.proofs.Common.{append_assoc}
use lib.ListN.{length}
use Rattle.refusals.specs.declared.Answer.{Answer}
use Rattle.refusals.specs.Refusals.{◌<?◌, pick, Row, refuse, accepted, first}
use Rattle.refusals.proofs.Conditions.{pick_yes, pick_no}
use Rattle.refusals.proofs.Exact.{Unused, decides, passes}
use Rattle.refusals.proofs.Joined.{stops, goes, goes_on}
use Rattle.layout.specs.CodeDirectory.{hash_type, n_code_slots}
use Rattle.directory.specs.Pages.{code_limit, P}
use Rattle.directory.specs.Rows.{directory, signature_rows}
use Rattle.cdhash.specs.Hash.{cdhash}
use Rattle.directory.proofs.Numbers.{signature_rows_unused}
use Rattle.slots.specs.Slots.{Sides, special_rows}
use Rattle.trustcache.specs.Rows.{entry_of}
use Rattle.trustcache.specs.Table.{cache_rows, cache_answer}
use Rattle.geometry.specs.Pages.{range_rows}
use Rattle.marks.specs.Marks.{mark_rows}
use Rattle.geometry.proofs.Ranges.{range_unused}
use Rattle.admission.specs.Input.{Beside, longest}
use Rattle.admission.specs.declared.Origin.{Origin}
use Rattle.admission.specs.declared.Origin.TheVariants as origin
use Rattle.admission.specs.Check.{image_rows, count_rows, later_rows, entry_for}
use Rattle.admission.specs.File.{start_rows}
use Rattle.admission.specs.Parts.{origin_rows, later_tested, parts_rows, parts_tested}
use Rattle.admission.specs.Recheck.{recheck_of, input_rows, call_rows}

-- THE LONGEST SIDE FILE

module _ (x : Sides) (a b : ℕ) (e : a ≡ cond x.info_there (length x.info) 0) (f : b ≡ cond x.resources_there (length x.resources) 0) where
  pub longest_resources : a < b → b ≡ longest x
  unfolding longest
  longest_resources h = pick_yes _ _ _ b (rw (← e, ← f) h) f

  pub longest_info : b ≤ a → a ≡ longest x
  unfolding longest
  longest_info h = pick_no _ _ _ a (rw (← e, ← f) h) e

pub longest_is : (x : Sides) (a b : ℕ) → a ≡ cond x.info_there (length x.info) 0 → b ≡ cond x.resources_there (length x.resources) 0 → max a b ≡ longest x
unfolding longest
longest_is x a b e f = rw (← e, ← f) (by_test (ltb a b) refl)
  where
    by_test : (t : Bool) → ltb a b ≡ t → max a b ≡ pick (a <? b) b a
    by_test true h =
        let l = ltb-true a b h in
        pick_yes (a <? b) b a (max a b) l (omega (arith, le-max_right a b, max-le {a = a} {b = b} {k = b} (omega arith) (omega arith)))
    by_test false h =
        let l = ltb-false a b h in
        pick_no (a <? b) b a (max a b) l (omega (arith, le-max_left a b, max-le {a = a} {b = b} {k = a} (omega arith) (omega arith)))

count_unused : (d : List ℕ) (marks : ℕ) → Unused (count_rows d marks) 0
unfolding count_rows
count_unused d marks = tt

sized_unused : (o : Origin) (d : List ℕ) (image marks : ℕ) → Unused (origin_rows o d image ++ count_rows d marks) 0
unfolding image_rows start_rows count_rows
sized_unused origin.Apart d image marks = tt
sized_unused (origin.File command) d image marks = tt

special_unused : (s d : List ℕ) (x : Sides) → Unused (special_rows s d x) 0
unfolding special_rows
special_unused s d x = tt

-- 19 OR 41, AND 20, of a directory d, by a field n that was read

module _ (d : List ℕ) (image marks n : ℕ) where
  pub image_long : (a : Answer) → n ≡ code_limit d → n ≤ image → a ≡ first (count_rows d marks) accepted → a ≡ first (image_rows d image ++ count_rows d marks) accepted
  unfolding image_rows
  image_long a f h q = goes_on (image_rows d image) (count_rows d marks) accepted a (omega arith, tt) q

  pub count_differs : n ≡ n_code_slots d → (marks ≡ n → ⊥) → refuse 20 0 ≡ first (count_rows d marks) accepted
  unfolding count_rows
  count_differs f ne = decides _ accepted 20 0 (λ q. ne (q ∙ sym f), refl)

  pub count_agrees : n ≡ n_code_slots d → marks ≡ n → accepted ≡ first (count_rows d marks) accepted
  unfolding count_rows
  count_agrees f q = passes _ accepted (q ∙ f, tt)

pub starts_there : (d : List ℕ) (start command marks n : ℕ) (a : Answer) → n ≡ code_limit d → start ≡ n → a ≡ first (count_rows d marks) accepted
    → a ≡ first (start_rows d start command ++ count_rows d marks) accepted
unfolding start_rows
starts_there d start command marks n a f h q = goes_on (start_rows d start command) (count_rows d marks) accepted a (h ∙ f, tt) q

-- by where the image comes from

pub origin_apart : (o : Origin) (d : List ℕ) (image marks : ℕ) (a : Answer) → o ≡ origin.Apart
    → a ≡ first (image_rows d image ++ count_rows d marks) accepted → a ≡ first (origin_rows o d image ++ count_rows d marks) accepted
origin_apart o d image marks a e h = h ∙ ap (λ (o : Origin). first (origin_rows o d image ++ count_rows d marks) accepted) (sym e)

pub origin_file : (o : Origin) (d : List ℕ) (image marks : ℕ) (a : Answer) (command : ℕ) → o ≡ origin.File command
    → a ≡ first (start_rows d image command ++ count_rows d marks) accepted → a ≡ first (origin_rows o d image ++ count_rows d marks) accepted
origin_file o d image marks a command e h = h ∙ ap (λ (o : Origin). first (origin_rows o d image ++ count_rows d marks) accepted) (sym e)

-- 21 TO 30, of a directory d

module _ (x : Beside) (d : List ℕ) (matched : Answer) (g : matched ≡ first (special_rows x.signature d x.sides) accepted) where
  pub matched_stops : (matched.number ≡ 0 → ⊥) → matched ≡ later_tested x d
  matched_stops ne = stops (special_rows x.signature d x.sides) _ _ matched g ne

  -- the cache decides, by the kind that was read and the hash that was cut
  pub matched_goes : matched.number ≡ 0 → (a : Answer) (kind : ℕ) (hash : List ℕ) → kind ≡ hash_type d → hash ≡ cdhash d
      → a ≡ cache_answer x.cache kind hash x.facts → a ≡ later_tested x d
  matched_goes w a kind hash t l h =
      goes (special_rows x.signature d x.sides) _ _ matched a (special_unused x.signature d x.sides) g w
      (h ∙ ap₂ (λ (n : ℕ) (b : List ℕ). cache_answer x.cache n b x.facts) t l)

-- 1 TO 30, with 19 or 41

module _ (o : Origin) (x : Beside) (image marks side : ℕ) (q : side ≡ longest x.sides)
    (formed : Answer) (e : formed ≡ first (signature_rows side x.signature) accepted) where
  formed_is : formed ≡ first (signature_rows (longest x.sides) x.signature) accepted
  formed_is = e ∙ ap (λ (n : ℕ). first (signature_rows n x.signature) accepted) q

  pub formed_stops : (formed.number ≡ 0 → ⊥) → formed ≡ parts_tested o x image marks
  unfolding parts_rows
  formed_stops ne = stops (signature_rows (longest x.sides) x.signature) _ _ formed formed_is ne

  -- of the directory d that was found
  module _ (z : formed.number ≡ 0) (d : List ℕ) (k : d ≡ directory x.signature)
      (sized : Answer) (f : sized ≡ first (origin_rows o d image ++ count_rows d marks) accepted) where
    formed_goes : (a : Answer)
        → a ≡ first (origin_rows o d image ++ count_rows d marks ++ (special_rows x.signature d x.sides ++ cache_rows x.cache (hash_type d) (cdhash d) x.facts)) (refuse 0 (entry_of x.cache (cdhash d)))
        → a ≡ parts_tested o x image marks
    unfolding parts_rows later_rows entry_for
    formed_goes a g =
        let h = g ∙ ap (λ (l : List Row). first l (refuse 0 (entry_of x.cache (cdhash d)))) (append_assoc (origin_rows o d image) (count_rows d marks) _) in
        goes (signature_rows (longest x.sides) x.signature) _ _ formed a (signature_rows_unused (longest x.sides) x.signature) formed_is z (rw (← k) h)

    pub sized_stops : (sized.number ≡ 0 → ⊥) → sized ≡ parts_tested o x image marks
    sized_stops ne = formed_goes sized (stops (origin_rows o d image ++ count_rows d marks) _ _ sized f ne)

    pub sized_goes : sized.number ≡ 0 → (a : Answer) → a ≡ later_tested x d → a ≡ parts_tested o x image marks
    sized_goes y a h = formed_goes a (goes (origin_rows o d image ++ count_rows d marks) _ _ sized a (sized_unused o d image marks) f y h)

-- 1 TO 18, 20, 32, 33 AND 34, in the recheck

module _ (s : List ℕ) (start size : ℕ) (contents marks : List ℕ) (formed : Answer) (e : formed ≡ first (signature_rows 0 s) accepted) where
  abbrev tested : Answer
  tested = first (call_rows s (recheck_of start size contents) marks) accepted

  pub call_formed_stops : (formed.number ≡ 0 → ⊥) → formed ≡ tested
  unfolding call_rows
  call_formed_stops ne = stops (signature_rows 0 s) _ accepted formed e ne

  -- of the directory d that was found
  module _ (z : formed.number ≡ 0) (d : List ℕ) (k : d ≡ directory s)
      (counted : Answer) (f : counted ≡ first (count_rows d (length marks)) accepted) where
    call_formed_goes : (a : Answer)
        → a ≡ first (count_rows d (length marks) ++ (range_rows (P d) (code_limit d) start size (length contents) ++ mark_rows marks)) accepted → a ≡ tested
    unfolding call_rows input_rows
    call_formed_goes a g = goes (signature_rows 0 s) _ accepted formed a (signature_rows_unused 0 s) e z (rw (← k) g)

    pub counted_stops : (counted.number ≡ 0 → ⊥) → counted ≡ tested
    counted_stops ne = call_formed_goes counted (stops (count_rows d (length marks)) _ accepted counted f ne)

    module _ (y : counted.number ≡ 0) (input : Answer) (g : input ≡ first (range_rows (P d) (code_limit d) start size (length contents)) accepted) where
      counted_goes : (a : Answer) → a ≡ first (range_rows (P d) (code_limit d) start size (length contents) ++ mark_rows marks) accepted → a ≡ tested
      counted_goes a h = call_formed_goes a (goes (count_rows d (length marks)) _ accepted counted a (count_unused d (length marks)) f y h)

      pub input_stops : (input.number ≡ 0 → ⊥) → input ≡ tested
      input_stops ne = counted_goes input (stops (range_rows (P d) (code_limit d) start size (length contents)) _ accepted input g ne)

      pub input_goes : input.number ≡ 0 → (a : Answer) → a ≡ first (mark_rows marks) accepted → a ≡ tested
      input_goes w a h =
          counted_goes a
          (goes (range_rows (P d) (code_limit d) start size (length contents)) _ accepted input a (range_unused (P d) (code_limit d) start size (length contents)) g w h)
