use Rattle.std.proofs.Common.{◌≡◌, ◌∙◌, Bool, Bor, List, ap, codes, map, sym}
use Rattle.std.specs.List.{list_all}
use Rattle.std.proofs.lemmas.List.Folds.{list_all-map}
use Rattle.clap.specs.Words.{Text, found_of}
use Rattle.kp_send_words.specs.DelimiterWords.{is_header}
use Rattle.kp_send_words.specs.SendWords.{no_header}
use Rattle.kp_command_line.proofs.OptionWordsLemmas.{first_is, first_or}
use Rattle.kp_send_words.proofs.send_words.sending_of.Goals as goal

-- the headers that are given are those that are said
same_answer : (headers words : List (Bor Text)) (said : List Text) (answer : Bool) → words ≡ headers → answer ≡ list_all (λ word. is_header word.now) words
    → map (λ header. header.now) headers ≡ said → list_all is_header said ≡ answer
same_answer headers words said answer as_given is same =
    sym (ap (list_all is_header) same)
    ∙ list_all-map is_header (λ (header : Bor Text). header.now) headers
    ∙ sym (is ∙ ap (list_all (λ (word : Bor Text). is_header word.now)) as_given)

pub returns-then-not-are_headers : goal.returns-then-not-are_headers
returns-then-not-are_headers c =
    no_header (same_answer c.args.headers.items c.as_slice.result.now _ c.are_headers.result c.as_slice.ensures.value c.are_headers.ensures c.requires
    ∙ c.if-not-are_headers.true)

pub returns : goal.returns
returns c =
    let found = found_of c.args.matches.now in
    record {
      file = first_or found (codes "file") c.get_str.result _ c.unwrap_or.result c.get_str.ensures c.unwrap_or.ensures;
      brokers = c.in_ok-brokers.ensures;
      topic = c.in_ok-topic.ensures;
      client = first_or found (codes "client.id") c.get_str-2.result _ c.unwrap_or-2.result c.get_str-2.ensures c.unwrap_or-2.ensures;
      config = c.settings_of.ensures;
      reconnect_backoff = c.number_or.ensures;
      reconnect_backoff_max = c.number_or-2.ensures;
      metadata_max_age = c.number_or-3.ensures;
      setup_timeout = c.number_or-4.ensures;
      partition = c.in_ok-partition.ensures.said;
      delimiter = c.in_ok-delimiter.ensures;
      key_delimiter = c.in_ok-key_delimiter.ensures.said;
      null_values = c.flag_of.ensures;
      headers = c.requires;
      named = same_answer c.args.headers.items c.as_slice.result.now _ c.are_headers.result c.as_slice.ensures.value c.are_headers.ensures c.requires
          ∙ c.if-not-are_headers.false;
      undelivered = sym (first_is found (codes "undelivered") c.get_str-3.result c.get_str-3.ensures);
      unknown = sym (first_is found (codes "unknown") c.get_str-4.result c.get_str-4.ensures);
      offsets = sym (first_is found (codes "offsets") c.get_str-5.result c.get_str-5.ensures);
      quiet = c.flag_of-2.ensures;
      statistics = c.number_of.ensures;
      give_up_after = c.number_of-2.ensures;
    }
