-- The words of the block, one by one (`words_of`). Assumes nothing.
use Rattle.sha.proofs.Elements.{words_of}
use Rattle.sha32.proofs.load.load_block.Goals as goal

pub returns : goal.returns
returns c = let a = c.args in
    words_of 4 a.b.now a.at _ (
      c.word_at.ensures,
      (
        c.word_at-2.ensures,
        (
          c.word_at-3.ensures,
          (
            c.word_at-4.ensures,
            (
              c.word_at-5.ensures,
              (
                c.word_at-6.ensures,
                (
                  c.word_at-7.ensures,
                  (
                    c.word_at-8.ensures,
                    (
                      c.word_at-9.ensures,
                      (
                        c.word_at-10.ensures,
                        (
                          c.word_at-11.ensures,
                          (
                            c.word_at-12.ensures,
                            (
                              c.word_at-13.ensures,
                              (
                                c.word_at-14.ensures,
                                (
                                  c.word_at-15.ensures,
                                  (
                                    c.word_at-16.ensures,
                                    tt,
                                  ),
                                ),
                              ),
                            ),
                          ),
                        ),
                      ),
                    ),
                  ),
                ),
              ),
            ),
          ),
        ),
      ),
    )
