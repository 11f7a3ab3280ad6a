-- All parts, true links and names that can be read are a mended pack.
use Rattle.laws_mend.specs.PartLaws.{PartsAreMended}

pub parts_are_mended : PartsAreMended
parts_are_mended p lasting links readable = record {
  pages = record {
    used = lasting.rooted.used.used;
    once = lasting.rooted.used.ended.cleared.once;
    last_pages = lasting.last_pages;
    readable = readable;
    directories = lasting.rooted.used.ended.directories;
    root = lasting.rooted.root;
    descriptor_lives = lasting.descriptor_lives;
    descriptor_size = lasting.descriptor_size;
  };
  links = links;
}
