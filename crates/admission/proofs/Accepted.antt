-- No row of a whole check's table holds exactly where the image may run: group by group the rows pass exactly where the rules of the crate that
-- owns them hold, of the directory at the position of type 0. Assumes nothing.
use Prim.Native.Nat.{ℕ, ◌≤◌}
use mathlib.Core.List.{List, ◌++◌}
use mathlib.Core.Logic.{◌↔◌}
use mathlib.Core.Path.{◌≡◌, sym, subst}
use lib.ListN.{length}
use Rattle.refusals.specs.Refusals.{Row, Passes}
use Rattle.refusals.proofs.Joined.{append_passes, passes_append}
use Rattle.layout.specs.CodeDirectory.{directory_type, hash_type, n_code_slots}
use Rattle.superblob.specs.Rows.{most_side, position, blob_of}
use Rattle.superblob.proofs.Lookup.{has_type, has_position, blob_of_at}
use Rattle.directory.specs.Pages.{code_limit}
use Rattle.directory.specs.Rows.{most_special_slots, directory, signature_rows}
use Rattle.cdhash.specs.Hash.{cdhash}
use Rattle.cdhash.proofs.Cut.{length_cdhash}
use Rattle.directory.specs.Formed.{DirectoryFormed, SignatureFormed}
use Rattle.directory.proofs.Formed.{signature_exactly}
use Rattle.slots.specs.Slots.{special_rows}
use Rattle.slots.specs.Matches.{Matches}
use Rattle.slots.proofs.Matches.{matches_exactly}
use Rattle.trustcache.specs.Rows.{entry_of}
use Rattle.trustcache.specs.Rules.{Listed}
use Rattle.trustcache.specs.Table.{cache_rows}
use Rattle.trustcache.proofs.Listed.{listed_exactly}
use Rattle.marks.specs.Marks.{bad_rows}
use Rattle.admission.specs.Input.{Lent, beside, longest, marks_of}
use Rattle.admission.specs.Check.{image_rows, later_rows, count_rows, check_rows, entry_for, check_table}
use Rattle.admission.specs.Admissible.{PagesAgree, Admissible}
use Rattle.admission.proofs.Sides.{sides_short}
use Rattle.admission.proofs.PageRules.{good_pages, pages_good}

-- THE RULES, of the directory d and with an entry of the cache

record Rules (x : Lent) (marksLength : ℕ) (d : List ℕ) (entry : ℕ) : Type 0 where
  formed : DirectoryFormed d
  image_long : code_limit d ≤ length x.image
  one_mark_a_page : marksLength ≡ n_code_slots d
  special_slots : (k : ℕ) → 1 ≤ k → k ≤ most_special_slots → Matches x.signature d x.sides k
  entry_listed : Listed x.cache (hash_type d) (cdhash d) x.facts entry
  pages_agree : PagesAgree d x.image

module _ (x : Lent) (m : ℕ) where
  abbrev s : List ℕ
  s = x.signature

  abbrev d : List ℕ
  d = directory s

  -- its table, group by group
  abbrev signature_group : List Row
  signature_group = signature_rows (longest x.sides) s

  abbrev image_group : List Row
  image_group = image_rows d (length x.image)

  abbrev marks_group : List Row
  marks_group = count_rows d m

  abbrev special_group : List Row
  special_group = special_rows s d x.sides

  abbrev cache_group : List Row
  cache_group = cache_rows x.cache (hash_type d) (cdhash d) x.facts

  abbrev page_group : List Row
  page_group = bad_rows (marks_of s x.image)

  -- each group passes
  record Groups : Type 0 where
    signature : Passes signature_group
    image : Passes image_group
    marks : Passes marks_group
    special : Passes special_group
    cache : Passes cache_group
    pages : Passes page_group

  -- the table passes exactly where they all do
  groups : Passes (check_table x m) → Groups
  unfolding check_table check_rows later_rows
  groups p =
      let a = append_passes (check_rows (beside x) (length x.image) m) page_group p in
      let b = append_passes signature_group (image_group ++ (marks_group ++ (special_group ++ cache_group))) a.0 in
      let c = append_passes image_group (marks_group ++ (special_group ++ cache_group)) b.1 in
      let d = append_passes marks_group (special_group ++ cache_group) c.1 in
      let e = append_passes special_group cache_group d.1 in
      record { signature = b.0; image = c.0; marks = d.0; special = e.0; cache = e.1; pages = a.1 }

  groups_pass : Groups → Passes (check_table x m)
  unfolding check_table check_rows later_rows
  groups_pass g =
      passes_append (check_rows (beside x) (length x.image) m) page_group
      (passes_append signature_group (image_group ++ (marks_group ++ (special_group ++ cache_group))) g.signature
      (passes_append image_group (marks_group ++ (special_group ++ cache_group)) g.image
      (passes_append marks_group (special_group ++ cache_group) g.marks
      (passes_append special_group cache_group g.special g.cache))))
      g.pages

  -- the directory's hash has 20 bytes, so that tests 24 to 30 pass exactly where an entry lists it
  by_entry : DirectoryFormed d
      → (Passes cache_group ↔ Listed x.cache (hash_type d) (cdhash d) x.facts (entry_of x.cache (cdhash d)))
      × ((entry : ℕ) → Listed x.cache (hash_type d) (cdhash d) x.facts entry → entry_of x.cache (cdhash d) ≡ entry)
  by_entry f = listed_exactly x.cache (hash_type d) (cdhash d) x.facts (length_cdhash d f.hash_kind)

  -- ROWS TO RULES

  -- the rules hold of the directory at the type's position
  rules : Groups → SignatureFormed (longest x.sides) s → Rules x m d (entry_for (beside x))
  unfolding image_rows count_rows entry_for
  rules g f =
      record {
        formed = f.formed;
        image_long = g.image.0;
        one_mark_a_page = g.marks.0;
        special_slots = (matches_exactly s d x.sides f.superblob).0 g.special;
        entry_listed = (by_entry f.formed).0.0 g.cache;
        pages_agree = good_pages d x.image f.formed.slot_a_page g.pages;
      }

  -- where no row holds the image may run: its directory is at the position of type 0, and its entry the one that the search finds
  admissible : Passes (check_table x m) → Admissible x m
  unfolding blob_of
  admissible p =
      let g = groups p in
      let f = (signature_exactly (longest x.sides) s).0 g.signature in
      let short = (sides_short x.sides most_side).0 f.short in
      let r = rules g f in
      record {
        superblob = f.superblob;
        info_short = short.0;
        resources_short = short.1;
        position = position s directory_type;
        position_below = f.has_directory;
        position_type = has_type s directory_type f.has_directory;
        directory = r.formed;
        image_long = r.image_long;
        one_mark_a_page = r.one_mark_a_page;
        special_slots = r.special_slots;
        entry = entry_for (beside x);
        listed = r.entry_listed;
        pages_agree = r.pages_agree;
      }

  -- RULES TO ROWS

  module _ (may : Admissible x m) where
    -- the directory at the type's position is the one that may run
    may_rules : Rules x m d may.entry
    may_rules =
        subst (λ (b : List ℕ). Rules x m b may.entry) (sym (blob_of_at s may.superblob may.position directory_type may.position_below may.position_type))
        (record {
          formed = may.directory;
          image_long = may.image_long;
          one_mark_a_page = may.one_mark_a_page;
          special_slots = may.special_slots;
          entry_listed = may.listed;
          pages_agree = may.pages_agree;
        })

    -- every group passes
    may_groups : Groups
    unfolding image_rows count_rows
    may_groups =
        let r = may_rules in
        let l = by_entry r.formed in
        record {
          signature =
              (signature_exactly (longest x.sides) s).1
              (record {
                superblob = may.superblob;
                short = (sides_short x.sides most_side).1 (may.info_short, may.resources_short);
                has_directory = has_position s may.superblob may.position directory_type may.position_below may.position_type;
                formed = r.formed;
              });
          image = (r.image_long, tt);
          marks = (r.one_mark_a_page, tt);
          special = (matches_exactly s d x.sides may.superblob).1 r.special_slots;
          cache = l.0.1 (rw (l.1 may.entry r.entry_listed) r.entry_listed);
          pages = pages_good d x.image r.formed.slot_a_page r.pages_agree;
        }

    -- its entry is the one that the search finds
    pub may_entry : entry_for (beside x) ≡ may.entry
    unfolding entry_for
    may_entry = (by_entry may_rules.formed).1 may.entry may_rules.entry_listed

  pub admissible_exactly : Passes (check_table x m) ↔ Admissible x m
  admissible_exactly = (admissible, λ may. groups_pass (may_groups may))
