-- Document 01, "The four written words": a cookie as a word, whatever its form.
use Rattle.std.specs.Prelude.{ℕ}
use Rattle.words.specs.declared.cookies.Cookie.{Cookie}
use Rattle.words.specs.declared.cookies.Cookie.TheVariants.{Cookie32, Cookie64}

abbrev pub cookie_word : Cookie → ℕ
cookie_word (Cookie32 word) = word
cookie_word (Cookie64 word) = word
