-- Each of the four marks is its page's, by the digest of the page's bytes (`page_mark`).
use Prim.Native.Nat.{◌+◌}
use Rattle.marks.specs.Lent.{mark_at}
use Rattle.marks.proofs.Tabs.{tab_four}
use Rattle.marks.proofs.Marking.{page_mark}
use Rattle.marks.proofs.Pages.mark_four.Goals as goal

pub returns : goal.returns
returns c =
    tab_four c.args.n (mark_at c.args.self.now)
    (page_mark c.args.self.now c.args.n _ _ _ _ c.mark_of.ensures c.digest_four-x.ensures.0 c.page_bytes-a.ensures)
    (page_mark c.args.self.now (c.args.n + 1) _ _ _ _ c.mark_of-2.ensures c.digest_four-x.ensures.1 c.page_bytes-b.ensures)
    (page_mark c.args.self.now (c.args.n + 2) _ _ _ _ c.mark_of-3.ensures c.digest_four-x.ensures.2 c.page_bytes-c.ensures)
    (page_mark c.args.self.now (c.args.n + 3) _ _ _ _ c.mark_of-4.ensures c.digest_four-x.ensures.3 c.page_bytes-d.ensures)
