use Rattle.std.proofs.Common.{rules, ◌≡◌, codes, string_bytes}
use Rattle.nanobot_words.proofs.Parsed.{texts_two}
use Rattle.nanobot_words.proofs.files.parse_check.Goals as goal

pub returns-then-is_name : goal.returns-then-is_name
returns-then-is_name c =
    let words = texts_two _ _ _ c.in-len2.len_at_least c.in-len2.len_below c.word-item.is c.model-item.is in
    let word : string_bytes c.word-item.result ≡ codes "check" = search rules in
    record {
      written = cc (words, word);
      named = search rules;
      of_table = tt;
    }
